-- An expression is known from its tree.
use Rattle.std.proofs.Common.{◌≡◌, ℕ, sym, ap, ap₂, ◌∙◌, subst}
use Rattle.us_expr.specs.declared.expression.Expr.{Expr, roll-Expr}
use Rattle.us_expr.specs.declared.expression.Expr.TheVariants.{I, J, Const, Var, Add, Sub, Div, Rem, rolls-I, rolls-J, rolls-Const, rolls-Var, rolls-Add, rolls-Sub, rolls-Div, rolls-Rem}
use Rattle.us_expr.specs.declared.expression.Expr.TheFolds.{fold-roll-Expr, ind-Expr, map-Expr}
use Rattle.us_expr.specs.declared.expression.Expr.TheOpen.{Expr-F}
use Rattle.us_expr.specs.Tree.{Tree, tree, one_level, RowIndex, ColIndex, Number, Variable, Sum, Difference, Quotient, Remainder}

abbrev pub expr_of : Tree → Expr
expr_of RowIndex = I
expr_of ColIndex = J
expr_of (Number c) = Const c
expr_of (Variable v) = Var v
expr_of (Sum a b) = Add (expr_of a) (expr_of b)
expr_of (Difference a b) = Sub (expr_of a) (expr_of b)
expr_of (Quotient a k) = Div (expr_of a) k
expr_of (Remainder a k) = Rem (expr_of a) k

abbrev pub IsBack : Expr → Type 0
IsBack e = expr_of (tree e) ≡ e

pub back_Add : (a b : Expr) → IsBack a → IsBack b → IsBack (roll-Expr (Expr-F.Add a b))
back_Add a b p q = ap expr_of (fold-roll-Expr Tree one_level (Expr-F.Add a b)) ∙ ap₂ (λ (x y : Expr). Add x y) p q ∙ sym (rolls-Add a b)

pub back_Sub : (a b : Expr) → IsBack a → IsBack b → IsBack (roll-Expr (Expr-F.Sub a b))
back_Sub a b p q = ap expr_of (fold-roll-Expr Tree one_level (Expr-F.Sub a b)) ∙ ap₂ (λ (x y : Expr). Sub x y) p q ∙ sym (rolls-Sub a b)

pub back_Div : (a : Expr) (k : ℕ) → IsBack a → IsBack (roll-Expr (Expr-F.Div a k))
back_Div a k p = ap expr_of (fold-roll-Expr Tree one_level (Expr-F.Div a k)) ∙ ap (λ (x : Expr). Div x k) p ∙ sym (rolls-Div a k)

pub back_Rem : (a : Expr) (k : ℕ) → IsBack a → IsBack (roll-Expr (Expr-F.Rem a k))
back_Rem a k p = ap expr_of (fold-roll-Expr Tree one_level (Expr-F.Rem a k)) ∙ ap (λ (x : Expr). Rem x k) p ∙ sym (rolls-Rem a k)

pub back : (e : Expr) → IsBack e
back = ind-Expr IsBack (λ x y same. subst (λ (z : Expr-F Expr). IsBack (roll-Expr z)) same (elim y as (λ v. IsBack (roll-Expr (map-Expr _ Expr (λ e. e.0) v))) [
  | Expr-F.I ↦ ap expr_of (fold-roll-Expr Tree one_level Expr-F.I) ∙ sym rolls-I
  | Expr-F.J ↦ ap expr_of (fold-roll-Expr Tree one_level Expr-F.J) ∙ sym rolls-J
  | Expr-F.Const c ↦ ap expr_of (fold-roll-Expr Tree one_level (Expr-F.Const c)) ∙ sym (rolls-Const c)
  | Expr-F.Var c ↦ ap expr_of (fold-roll-Expr Tree one_level (Expr-F.Var c)) ∙ sym (rolls-Var c)
  | Expr-F.Add a b ↦ back_Add a.0 b.0 a.1 b.1
  | Expr-F.Sub a b ↦ back_Sub a.0 b.0 a.1 b.1
  | Expr-F.Div a k ↦ back_Div a.0 k a.1
  | Expr-F.Rem a k ↦ back_Rem a.0 k a.1
]))

-- expressions with one tree are one
pub tree_tells : (a b : Expr) → tree a ≡ tree b → a ≡ b
tree_tells a b h = sym (back a) ∙ ap expr_of h ∙ back b
