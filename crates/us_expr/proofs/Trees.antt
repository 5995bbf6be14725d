-- The tree of each form of expression.
use Rattle.std.proofs.Common.{◌≡◌, ℕ, sym, ap, ◌∙◌}
use Rattle.us_expr.specs.declared.expression.Expr.{Expr}
use Rattle.us_expr.specs.declared.expression.Expr.TheVariants.{Const, Add, Sub, Div, Rem, rolls-Const, rolls-Add, rolls-Sub, rolls-Div, rolls-Rem}
use Rattle.us_expr.specs.declared.expression.Expr.TheFolds.{fold-roll-Expr}
use Rattle.us_expr.specs.declared.expression.Expr.TheOpen.{Expr-F}
use Rattle.us_expr.specs.Tree.{Tree, tree, one_level, Number, Sum, Difference, Quotient, Remainder}

pub tree-Add : (a b : Expr) → tree (Add a b) ≡ Sum (tree a) (tree b)
tree-Add a b = ap tree (sym (rolls-Add a b)) ∙ fold-roll-Expr Tree one_level (Expr-F.Add a b)

pub tree-Sub : (a b : Expr) → tree (Sub a b) ≡ Difference (tree a) (tree b)
tree-Sub a b = ap tree (sym (rolls-Sub a b)) ∙ fold-roll-Expr Tree one_level (Expr-F.Sub a b)

pub tree-Const : (c : ℕ) → tree (Const c) ≡ Number c
tree-Const c = ap tree (sym (rolls-Const c)) ∙ fold-roll-Expr Tree one_level (Expr-F.Const c)

pub tree-Div : (a : Expr) (k : ℕ) → tree (Div a k) ≡ Quotient (tree a) k
tree-Div a k = ap tree (sym (rolls-Div a k)) ∙ fold-roll-Expr Tree one_level (Expr-F.Div a k)

pub tree-Rem : (a : Expr) (k : ℕ) → tree (Rem a k) ≡ Remainder (tree a) k
tree-Rem a k = ap tree (sym (rolls-Rem a k)) ∙ fold-roll-Expr Tree one_level (Expr-F.Rem a k)
