use Rattle.std.proofs.Common.{refl, ap, None}
use Rattle.us_code.specs.Unbound.{broken}
use Rattle.us_bounds.proofs.Leading.{kept, no_more, judged_err, judged_ok, leads_done}
use Rattle.us_bounds.proofs.statements.check_order.Goals as goal

pub returns-in_err-judge : goal.returns-in_err-judge
returns-in_err-judge c =
    judged_err None _ _ _ _ c.from_residual.ensures.1 (ap (broken c.args.item) (kept 1 c.may_order-names.ensures (kept 7 c.is_ordered-ordered.ensures (kept 9 c.is_new-new.ensures no_more)))) c.in_err-judge.ensures

pub returns : goal.returns
returns c =
    judged_ok None (ap (broken c.args.item) (kept 1 c.may_order-names.ensures (kept 7 c.is_ordered-ordered.ensures (kept 9 c.is_new-new.ensures no_more)))) c.in_ok-judge.ensures (leads_done refl refl refl)
