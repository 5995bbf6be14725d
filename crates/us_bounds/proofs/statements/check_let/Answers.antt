use Rattle.std.proofs.Common.{refl, ap, None, false}
use Rattle.us_code.specs.Typing.{with_reg}
use Rattle.us_code.specs.Unbound.{broken}
use Rattle.us_bounds.specs.Seen.{context_of}
use Rattle.us_bounds.proofs.Leading.{names_kept, judged_err, judged_ok, leads_as}
use Rattle.us_bounds.proofs.statements.check_let.Goals as goal

pub returns-in_err-judge_term : goal.returns-in_err-judge_term
returns-in_err-judge_term c =
    judged_err None _ _ _ _ c.from_residual.ensures.1 (ap (broken c.args.item) (names_kept _ _ c.may_let-names.ensures)) c.in_err-judge_term.ensures

pub returns : goal.returns
returns c =
    judged_ok None (ap (broken c.args.item) (names_kept _ _ c.may_let-names.ensures)) c.in_ok-judge_term.ensures (leads_as refl refl (ap (λ k. with_reg (context_of c.args.table.now) c.args.reg false k) c.kind_of-kind.ensures) c.introduce.ensures)
