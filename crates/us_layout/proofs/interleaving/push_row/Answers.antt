use Rattle.std.proofs.Common.{◌∙◌, rules, FitsSigned, w64}
use Rattle.std.proofs.lemmas.Int.{to_z-of_z}
use Rattle.us_format.specs.Lists.{cell}
use Rattle.us_layout.proofs.Interleaved.{walked-more}
use Rattle.us_layout.proofs.interleaving.push_row.Goals as goal

pub cell_of-requires : goal.cell_of-requires
cell_of-requires c = c.requires c.loop-column.column-index _ c.loop-column-test.true

pub loop-column-preserved : goal.loop-column-preserved
loop-column-preserved c =
    let fits : FitsSigned w64 c.cell_of.result = search rules in
    walked-more (λ column. cell column.now c.args.x) c.args.columns.now c.loop-column.column-index _ _ _ _ _ c.loop-column-test.true c.loop-column.invariant c.in_ok-push.ensures.items (to_z-of_z w64 c.cell_of.result fits ∙ c.cell_of.ensures)
