use Rattle.std.proofs.Common.{rules, ◌≡◌, w64, ◌+ℤ◌, ◌-ℤ◌, FitsSigned, ap, ◌∙◌, subst, refl}
use Rattle.std.proofs.lemmas.Int.{to_z-of_z}
use Rattle.us_expr.specs.Tree.{Tree, tree, Sum, Difference}
use Rattle.us_expr.specs.Value.{IsValid}
use Rattle.us_expr.proofs.Trees.{tree-Add, tree-Sub}
use Rattle.us_expr.proofs.Bounds.{sum_fits, difference_fits}
use Rattle.us_expr.proofs.values.+eval.Goals as goal

pub overflow_add-result : goal.overflow_add-result
overflow_add-result t c =
    let e : tree c.args.e.now ≡ Sum (tree c.in-Add.a) (tree c.in-Add.b) = ap tree c.in-Add.is ∙ tree-Add c.in-Add.a c.in-Add.b in
    let v : IsValid c.args.p.now.vars.items (Sum (tree c.in-Add.a) (tree c.in-Add.b)) = subst (λ (x : Tree). IsValid c.args.p.now.vars.items x) e c.requires.valid in
    let fx : FitsSigned w64 c.eval.result = search rules in
    let fy : FitsSigned w64 c.eval-in-Add.result = search rules in
    rw (to_z-of_z w64 c.eval.result fx, to_z-of_z w64 c.eval-in-Add.result fy, c.eval.ensures, c.get.ensures, c.eval-in-Add.ensures, c.get-in-Add.ensures)
    (sum_fits _ _ _ _ _ c.requires.point v)

pub returns-in-Add : goal.returns-in-Add
returns-in-Add t c =
    let e : tree c.args.e.now ≡ Sum (tree c.in-Add.a) (tree c.in-Add.b) = ap tree c.in-Add.is ∙ tree-Add c.in-Add.a c.in-Add.b in
    let fx : FitsSigned w64 c.eval.result = search rules in
    let fy : FitsSigned w64 c.eval-in-Add.result = search rules in
    let fz : FitsSigned w64 (c.eval.result +ℤ c.eval-in-Add.result) = (rw (to_z-of_z w64 c.eval.result fx, to_z-of_z w64 c.eval-in-Add.result fy) at (overflow_add-result t c)) in
    rw (to_z-of_z w64 c.eval.result fx, to_z-of_z w64 c.eval-in-Add.result fy, to_z-of_z w64 _ fz, e, c.eval.ensures, c.get.ensures, c.eval-in-Add.ensures, c.get-in-Add.ensures) refl

pub overflow_sub-result : goal.overflow_sub-result
overflow_sub-result t c =
    let e : tree c.args.e.now ≡ Difference (tree c.in-Sub.a) (tree c.in-Sub.b) = ap tree c.in-Sub.is ∙ tree-Sub c.in-Sub.a c.in-Sub.b in
    let v : IsValid c.args.p.now.vars.items (Difference (tree c.in-Sub.a) (tree c.in-Sub.b)) = subst (λ (x : Tree). IsValid c.args.p.now.vars.items x) e c.requires.valid in
    let fx : FitsSigned w64 c.eval-in-Sub.result = search rules in
    let fy : FitsSigned w64 c.eval-in-Sub-2.result = search rules in
    rw (to_z-of_z w64 c.eval-in-Sub.result fx, to_z-of_z w64 c.eval-in-Sub-2.result fy, c.eval-in-Sub.ensures, c.get-in-Sub.ensures, c.eval-in-Sub-2.ensures, c.get-in-Sub-2.ensures)
    (difference_fits _ _ _ _ _ c.requires.point v)

pub returns-in-Sub : goal.returns-in-Sub
returns-in-Sub t c =
    let e : tree c.args.e.now ≡ Difference (tree c.in-Sub.a) (tree c.in-Sub.b) = ap tree c.in-Sub.is ∙ tree-Sub c.in-Sub.a c.in-Sub.b in
    let fx : FitsSigned w64 c.eval-in-Sub.result = search rules in
    let fy : FitsSigned w64 c.eval-in-Sub-2.result = search rules in
    let fz : FitsSigned w64 (c.eval-in-Sub.result -ℤ c.eval-in-Sub-2.result) = (rw (to_z-of_z w64 c.eval-in-Sub.result fx, to_z-of_z w64 c.eval-in-Sub-2.result fy) at (overflow_sub-result t c)) in
    rw (to_z-of_z w64 c.eval-in-Sub.result fx, to_z-of_z w64 c.eval-in-Sub-2.result fy, to_z-of_z w64 _ fz, e, c.eval-in-Sub.ensures, c.get-in-Sub.ensures, c.eval-in-Sub-2.ensures, c.get-in-Sub-2.ensures) refl
