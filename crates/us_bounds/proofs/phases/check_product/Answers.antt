use Rattle.std.proofs.Common.{ap, None}
use Rattle.us_code.specs.Unbound.{broken}
use Rattle.us_bounds.proofs.Leading.{kept, no_more, judged_err, judged_ok}
use Rattle.us_bounds.proofs.phases.check_product.Goals as goal

pub returns-in_err-judge : goal.returns-in_err-judge
returns-in_err-judge c =
    judged_err None _ _ _ _ c.from_residual.ensures.1 (ap (broken c.args.item) (kept 1 c.may_multiply-names.ensures no_more)) c.in_err-judge.ensures

pub returns : goal.returns
returns c =
    judged_ok None (ap (broken c.args.item) (kept 1 c.may_multiply-names.ensures no_more)) c.in_ok-judge.ensures c.define.ensures
