use Rattle.std.proofs.Common.{length, ap, sym, ◌∙◌}
use Rattle.std.proofs.lemmas.List.{length-map}
use Rattle.us_decl.specs.Declares.{Declared}
use Rattle.us_advise.specs.Blocks.{all_blocks}
use Rattle.us_advise.specs.Least.{size_in, told}
use Rattle.us_smallest.specs.Blocking.{block_size}
use Rattle.us_smallest.proofs.BestLemmas.{all_above, best_is, place_below}
use Rattle.us_smallest.proofs.SideLemmas.{count_blocks, told_of_blocks}
use Rattle.us_smallest.proofs.blocking.best_of.Goals as goal

pub returns-in_default-clause-large : goal.returns-in_default-clause-large
returns-in_default-clause-large c = all_above c.args.matrix.now (sym c.in_ok-advice.ensures.best ∙ c.in_default.is)

pub block_lines-requires-clause-count : goal.block_lines-requires-clause-count
block_lines-requires-clause-count c =
    ap length (c.as_slice.ensures ∙ c.in_ok-advice.ensures.sizes) ∙ length-map all_blocks (λ (d : Declared). told (size_in c.args.matrix.now d)) ∙ count_blocks

pub block_lines-requires-clause-best : goal.block_lines-requires-clause-best
block_lines-requires-clause-best c = place_below c.args.matrix.now _ c.in-Some.place c.in-Some.is c.in_ok-advice.ensures.smallest

pub sides_at-requires : goal.sides_at-requires
sides_at-requires c = place_below c.args.matrix.now _ c.in-Some.place c.in-Some.is c.in_ok-advice.ensures.smallest

pub returns-clause-best : goal.returns-clause-best
returns-clause-best c =
    best_is c.args.matrix.now c.in-Some.place c.sides_at.result c.in_ok-text.text.items c.in_ok-lines.lines.items (sym c.in_ok-advice.ensures.best ∙ c.in-Some.is)
    (place_below c.args.matrix.now _ c.in-Some.place c.in-Some.is c.in_ok-advice.ensures.smallest) c.sides_at.ensures.is c.in_ok-text.ensures.valid c.in_ok-text.ensures.text
    (c.in_ok-lines.ensures (block_size c.args.matrix.now) c.sides_at.result (c.as_slice.ensures ∙ c.in_ok-advice.ensures.sizes ∙ told_of_blocks c.args.matrix.now) c.sides_at.ensures.is)
