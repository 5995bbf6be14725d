use Rattle.std.proofs.Common.{refl, ap, ap₂, ◌∙◌, None, false}
use Rattle.us_code.specs.Typing.{fits, with_reg}
use Rattle.us_code.specs.Unbound.{broken}
use Rattle.us_bounds.specs.Seen.{context_of}
use Rattle.us_bounds.proofs.Leading.{kept, no_more, judged_err, judged_ok, leads_as}
use Rattle.us_bounds.proofs.statements.check_load.Goals as goal

pub returns-in_err-judge : goal.returns-in_err-judge
returns-in_err-judge c =
    judged_err None _ _ _ _ c.from_residual.ensures.1 (ap (broken c.args.item) (kept 1 c.may_load-names.ensures (kept 2 (c.fits-inside.ensures ∙ ap₂ fits c.kind_of.ensures c.len_of.ensures) (kept 5 c.keeps_flats-flats.ensures (kept 6 c.keeps_nexts-nexts.ensures no_more))))) c.in_err-judge.ensures

pub returns : goal.returns
returns c =
    judged_ok None (ap (broken c.args.item) (kept 1 c.may_load-names.ensures (kept 2 (c.fits-inside.ensures ∙ ap₂ fits c.kind_of.ensures c.len_of.ensures) (kept 5 c.keeps_flats-flats.ensures (kept 6 c.keeps_nexts-nexts.ensures no_more))))) c.in_ok-judge.ensures (leads_as refl refl (ap (λ k. with_reg (context_of c.args.table.now) c.args.reg false k) c.cell_of-cell.ensures) c.introduce.ensures)
