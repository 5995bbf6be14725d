use Rattle.std.proofs.Common.{refl, ap, ap₂, ◌∙◌, None}
use Rattle.us_code.specs.Typing.{fits, fits_cell}
use Rattle.us_code.specs.Unbound.{broken}
use Rattle.us_bounds.proofs.Leading.{kept, no_more, judged_err, judged_ok, leads_done}
use Rattle.us_bounds.proofs.statements.check_set.Goals as goal

pub returns-in_err-judge : goal.returns-in_err-judge
returns-in_err-judge c =
    judged_err None _ _ _ _ c.from_residual.ensures.1 (ap (broken c.args.item) (kept 1 c.may_set-names.ensures (kept 2 (c.fits-inside.ensures ∙ ap₂ fits c.kind_of.ensures c.len_of.ensures) (kept 3 (c.fits_cell-fitting.ensures ∙ ap₂ fits_cell c.kind_of-2.ensures c.cell_of.ensures) (kept 5 c.keep_flats-flats.ensures (kept 6 c.keep_nexts-nexts.ensures (kept 9 c.is_new-new.ensures no_more))))))) c.in_err-judge.ensures

pub returns : goal.returns
returns c =
    judged_ok None (ap (broken c.args.item) (kept 1 c.may_set-names.ensures (kept 2 (c.fits-inside.ensures ∙ ap₂ fits c.kind_of.ensures c.len_of.ensures) (kept 3 (c.fits_cell-fitting.ensures ∙ ap₂ fits_cell c.kind_of-2.ensures c.cell_of.ensures) (kept 5 c.keep_flats-flats.ensures (kept 6 c.keep_nexts-nexts.ensures (kept 9 c.is_new-new.ensures no_more))))))) c.in_ok-judge.ensures (leads_done refl refl refl)
