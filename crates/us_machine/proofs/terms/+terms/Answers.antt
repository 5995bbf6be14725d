use Rattle.std.proofs.Common.{rules, arith, ◌≡◌, ℕ, ◌<◌, ◌^◌, w64, ℤ, pos, ◌+ℤ◌, ◌-ℤ◌, ◌*ℤ◌, FitsSigned, ap, sym, subst, ◌∙◌}
use Rattle.std.specs.Int.{int_wrap}
use Rattle.std.proofs.lemmas.Int.{wrapping_add_is, wrapping_sub_is}
use Rattle.us_code.specs.declared.program.Term.{Term}
use Rattle.us_code.specs.Plain.{term_tree, Flat}
use Rattle.us_code.specs.Run.{value}
use Rattle.us_machine.specs.Tables.{env_of, regs_of, held, IsEvaluable}
use Rattle.us_machine.proofs.Wraps.{flat_wraps}
use Rattle.us_machine.proofs.terms.+terms.Goals as goal

pub compute-returns-in-Flat : goal.compute-returns-in-Flat
compute-returns-in-Flat t c =
    let env = env_of c.args.tables.now c.args.source.now in
    let regs = regs_of c.args.regs.now in
    let val = λ (x : Term). value env regs (term_tree x) in
    let r : IsEvaluable c.args.tables.now c.args.source.now regs (Flat c.in-Flat.d (term_tree c.in-Flat.place.value) (term_tree c.in-Flat.digit.value)) = subst (λ (x : Term). IsEvaluable c.args.tables.now c.args.source.now regs (term_tree x)) c.in-Flat.is c.requires in
    let el : c.eval.result ≡ val c.in-Flat.place.value = c.eval.ensures ∙ ap val c.deref.ensures in
    let ed : c.eval-in-Flat.result ≡ val c.in-Flat.digit.value = c.eval-in-Flat.ensures ∙ ap val c.deref-in-Flat.ensures in
    let fl : FitsSigned w64 c.eval.result = search rules in
    let fd : FitsSigned w64 c.eval-in-Flat.result = search rules in
    let f = held c.args.tables.now.factors c.in-Flat.d in
    let sum : c.eval.result *ℤ pos c.get-factor.result +ℤ c.eval-in-Flat.result ≡ val c.in-Flat.place.value *ℤ pos f +ℤ val c.in-Flat.digit.value =
    ap (λ (x : ℤ). x *ℤ pos c.get-factor.result +ℤ c.eval-in-Flat.result) el
    ∙ (ap (λ (x : ℕ). val c.in-Flat.place.value *ℤ pos x +ℤ c.eval-in-Flat.result) c.get-factor.ensures
    ∙ ap (λ (x : ℤ). val c.in-Flat.place.value *ℤ pos f +ℤ x) ed) in
    let small : c.get-factor.result < 2 ^ 63 = omega (arith, r.2, c.get-factor.ensures) in
    flat_wraps c.eval.result c.eval-in-Flat.result c.get-factor.result fl fd small (subst (λ (x : ℤ). FitsSigned w64 x) (sym sum) r.3)
    ∙ (sum ∙ ap val (sym c.in-Flat.is))

pub compute-returns-in-Add : goal.compute-returns-in-Add
compute-returns-in-Add t c =
    let val = λ (x : Term). value (env_of c.args.tables.now c.args.source.now) (regs_of c.args.regs.now) (term_tree x) in
    let fl : FitsSigned w64 c.eval-left.result = search rules in
    let fr : FitsSigned w64 c.eval-in-Add.result = search rules in
    wrapping_add_is w64 c.eval-left.result c.eval-in-Add.result fl fr
    ∙ (ap (λ (x : ℤ). int_wrap w64 (x +ℤ c.eval-in-Add.result)) (c.eval-left.ensures ∙ ap val c.deref-in-Add.ensures)
    ∙ (ap (λ (x : ℤ). int_wrap w64 (val c.in-Add.a.value +ℤ x)) (c.eval-in-Add.ensures ∙ ap val c.deref-in-Add-2.ensures)
    ∙ ap val (sym c.in-Add.is)))

pub compute-returns-in-Sub : goal.compute-returns-in-Sub
compute-returns-in-Sub t c =
    let val = λ (x : Term). value (env_of c.args.tables.now c.args.source.now) (regs_of c.args.regs.now) (term_tree x) in
    let fl : FitsSigned w64 c.eval-left-in-Sub.result = search rules in
    let fr : FitsSigned w64 c.eval-in-Sub.result = search rules in
    wrapping_sub_is w64 c.eval-left-in-Sub.result c.eval-in-Sub.result fl fr
    ∙ (ap (λ (x : ℤ). int_wrap w64 (x -ℤ c.eval-in-Sub.result)) (c.eval-left-in-Sub.ensures ∙ ap val c.deref-in-Sub.ensures)
    ∙ (ap (λ (x : ℤ). int_wrap w64 (val c.in-Sub.a.value -ℤ x)) (c.eval-in-Sub.ensures ∙ ap val c.deref-in-Sub-2.ensures)
    ∙ ap val (sym c.in-Sub.is)))
