use Rattle.std.proofs.Common.{arith, sym, ap, subst, true, ◌∙◌, ◌++◌, ◌∷◌, []}
use Rattle.std.proofs.lemmas.Result.{err_from_is_err_and}
use Rattle.std.proofs.lemmas.Int.{to_z-of_z}
use Rattle.std.specs.Int.{w64}
use Rattle.us_mm.specs.Known.{HasValues}
use Rattle.us_mm.proofs.ArrayLemmas.{value_fits}
use Rattle.us_mm.proofs.KnowsLemmas.{took_fault, values_skip, values_more, values_fail, values_extra}
use Rattle.us_mm.proofs.valuing.Values.take.Goals as goal

pub returns-then-is_skipped : goal.returns-then-is_skipped
returns-then-is_skipped c = λ ls h is. values_skip c.args.self.now ls c.args.line.now h (sym c.if-is_skipped.ensures)

pub returns-then-len-places : goal.returns-then-len-places
returns-then-len-places c = λ ls h is. values_extra _ ls c.args.line.now c.args.number (subst (λ v. HasValues v ls) (sym c.self.view_is) h) (sym c.if-is_skipped.ensures) is (omega (arith, c.len.ensures, c.places.ensures, c.if-len-places.true, c.self.inside.cells.ok.0))

pub returns-in_err-value : goal.returns-in_err-value
returns-in_err-value c = λ ls h is.
    let p = err_from_is_err_and c.from_residual.result c.from_residual.ensures.1 in
    rw (p.1, p.2) (took_fault {A = Unit {0}} (λ _. HasValues c.args.self.now (ls ++ c.args.line.now ∷ [])) true _ (ls ++ c.args.line.now ∷ []) (values_fail _ ls c.args.line.now c.args.number _ (subst (λ v. HasValues v ls) (sym c.self.view_is) h) (sym c.if-is_skipped.ensures) is (omega (arith, c.len.ensures, c.places.ensures, c.if-len-places.false, c.self.inside.cells.ok.0)) (sym c.in_err-value.ensures.value)))

pub returns : goal.returns
returns c = λ ls h is.
    let v = c.in_ok-value.value in
    let pushed = c.in_ok-add.ensures.ok ∙ ap (λ x. c.self.inside.cells.items ++ x ∷ []) (to_z-of_z w64 v (value_fits v c.in_ok-value.ensures.range)) in
    values_more _ ls c.args.line.now c.args.number v c.add.new.values.items (subst (λ v. HasValues v ls) (sym c.self.view_is) h) (sym c.if-is_skipped.ensures) is (omega (arith, c.len.ensures, c.places.ensures, c.if-len-places.false, c.self.inside.cells.ok.0)) (sym c.in_ok-value.ensures.value) pushed
