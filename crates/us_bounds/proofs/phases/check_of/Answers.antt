use Rattle.std.proofs.Common.{ap, None}
use Rattle.us_code.specs.Unbound.{broken}
use Rattle.us_bounds.proofs.Leading.{names_kept, judged_err, judged_ok}
use Rattle.us_bounds.proofs.phases.check_of.Goals as goal

pub returns-in_err-judge_term : goal.returns-in_err-judge_term
returns-in_err-judge_term c =
    judged_err None _ _ _ _ c.from_residual.ensures.1 (ap (broken c.args.item) (names_kept _ _ c.may_define-names.ensures)) c.in_err-judge_term.ensures

pub returns : goal.returns
returns c =
    judged_ok None (ap (broken c.args.item) (names_kept _ _ c.may_define-names.ensures)) c.in_ok-judge_term.ensures c.define.ensures
