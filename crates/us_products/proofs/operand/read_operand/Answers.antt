use Rattle.std.proofs.Common.{sym, subst}
use Rattle.std.proofs.lemmas.Option.{IfSome_then}
use Rattle.std.proofs.lemmas.Result.{err_from_is_err_and}
use Rattle.us_mm.specs.Arrays.{array_in}
use Rattle.us_status.specs.Answers.{IsStep}
use Rattle.us_status.specs.declared.status.Slot.TheVariants.{Operand}
use Rattle.us_inputs.proofs.InputLemmas.{read_behind, unread_behind}
use Rattle.us_products.specs.Factors.{operand_step}
use Rattle.us_products.proofs.operand.read_operand.Goals as goal

pub returns-in_err-bytes-clause-plain : goal.returns-in_err-bytes-clause-plain
returns-in_err-bytes-clause-plain g c =
    let p = err_from_is_err_and c.from_residual.result c.from_residual.ensures.1 in
    rw (p.1, p.2) (IfSome_then (g.O.Outside.files c.args.outside.now) c.in_err-bytes.ensures.plain (λ fs h. unread_behind Operand _ _ _ h))

pub returns-clause-plain : goal.returns-clause-plain
returns-clause-plain g c =
    IfSome_then (g.O.Outside.files c.args.outside.now) c.in_ok-bytes.ensures.plain
    (λ fs h. subst (λ x. IsStep x c.operand_in.result) (sym (read_behind Operand _ c.in_ok-bytes.bytes.items (λ b. operand_step (array_in b)) h)) (rw c.deref.ensures.value at c.operand_in.ensures.plain))
