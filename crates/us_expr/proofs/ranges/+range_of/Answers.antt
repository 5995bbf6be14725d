use Rattle.std.proofs.Common.{◌≡◌, ap, ◌∙◌, subst}
use Rattle.us_expr.specs.Tree.{Tree, tree, Sum, Difference}
use Rattle.us_expr.specs.Range.{IsRangeable}
use Rattle.us_expr.proofs.Trees.{tree-Add, tree-Sub}
use Rattle.us_expr.proofs.Bounds.{add_ends, sub_ends}
use Rattle.us_expr.proofs.ranges.+range_of.Goals as goal

pub sum_range-requires-clause-lo : goal.sum_range-requires-clause-lo
sum_range-requires-clause-lo t c =
    let e : tree c.args.e.now ≡ Sum (tree c.in-Add.a) (tree c.in-Add.b) = ap tree c.in-Add.is ∙ tree-Add c.in-Add.a c.in-Add.b in
    let v : IsRangeable c.args.r.now.vars.items (Sum (tree c.in-Add.a) (tree c.in-Add.b)) = subst (λ (x : Tree). IsRangeable c.args.r.now.vars.items x) e c.requires.valid in
    rw (c.range_of.ensures, c.get.ensures, c.range_of-in-Add.ensures, c.get-in-Add.ensures) (add_ends _ _ _ _ _ c.requires.rows c.requires.cols v).0

pub sum_range-requires-clause-hi : goal.sum_range-requires-clause-hi
sum_range-requires-clause-hi t c =
    let e : tree c.args.e.now ≡ Sum (tree c.in-Add.a) (tree c.in-Add.b) = ap tree c.in-Add.is ∙ tree-Add c.in-Add.a c.in-Add.b in
    let v : IsRangeable c.args.r.now.vars.items (Sum (tree c.in-Add.a) (tree c.in-Add.b)) = subst (λ (x : Tree). IsRangeable c.args.r.now.vars.items x) e c.requires.valid in
    rw (c.range_of.ensures, c.get.ensures, c.range_of-in-Add.ensures, c.get-in-Add.ensures) (add_ends _ _ _ _ _ c.requires.rows c.requires.cols v).1

pub difference_range-requires-clause-lo : goal.difference_range-requires-clause-lo
difference_range-requires-clause-lo t c =
    let e : tree c.args.e.now ≡ Difference (tree c.in-Sub.a) (tree c.in-Sub.b) = ap tree c.in-Sub.is ∙ tree-Sub c.in-Sub.a c.in-Sub.b in
    let v : IsRangeable c.args.r.now.vars.items (Difference (tree c.in-Sub.a) (tree c.in-Sub.b)) = subst (λ (x : Tree). IsRangeable c.args.r.now.vars.items x) e c.requires.valid in
    rw (c.range_of-in-Sub.ensures, c.get-in-Sub.ensures, c.range_of-in-Sub-2.ensures, c.get-in-Sub-2.ensures) (sub_ends _ _ _ _ _ c.requires.rows c.requires.cols v).0

pub difference_range-requires-clause-hi : goal.difference_range-requires-clause-hi
difference_range-requires-clause-hi t c =
    let e : tree c.args.e.now ≡ Difference (tree c.in-Sub.a) (tree c.in-Sub.b) = ap tree c.in-Sub.is ∙ tree-Sub c.in-Sub.a c.in-Sub.b in
    let v : IsRangeable c.args.r.now.vars.items (Difference (tree c.in-Sub.a) (tree c.in-Sub.b)) = subst (λ (x : Tree). IsRangeable c.args.r.now.vars.items x) e c.requires.valid in
    rw (c.range_of-in-Sub.ensures, c.get-in-Sub.ensures, c.range_of-in-Sub-2.ensures, c.get-in-Sub-2.ensures) (sub_ends _ _ _ _ _ c.requires.rows c.requires.cols v).1
