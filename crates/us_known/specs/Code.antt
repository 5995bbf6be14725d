-- The code of an expression's tree, by which proofs tell two values apart: that of the expression which has the tree.
use Rattle.std.specs.Prelude.{ℕ, ◌≡◌, ◌⊎◌, List, refl}
use Rattle.std.proofs.Common.{ap, ap₂, sym, ◌∙◌, inl, inr}
use Rattle.std.specs.Coded.{Coded, code_by, coded_list, coded×, coded⊎, coded_ℕ}
use Rattle.us_expr.specs.contracts.expression.Expr as expression
use Rattle.us_expr.specs.declared.expression.Expr.{Expr}
use Rattle.us_expr.specs.declared.expression.Expr.TheVariants.{rolls-I, rolls-J, rolls-Var}
use Rattle.us_expr.specs.declared.expression.Expr.TheFolds.{fold-roll-Expr}
use Rattle.us_expr.specs.declared.expression.Expr.TheOpen.{Expr-F}
use Rattle.us_expr.specs.Tree.{Tree, tree, one_level, RowIndex, ColIndex, Number, Variable, Sum, Difference, Quotient, Remainder}
use Rattle.us_format.specs.Known.{Give, Itself, OfLevel, Plus, Minus, Joined, Over, Rest, OrderAt, RowsAt, Steps}
use Rattle.us_expr.proofs.Back.{expr_of}
use Rattle.us_expr.proofs.Trees.{tree-Const, tree-Add, tree-Sub, tree-Div, tree-Rem}

-- a tree is the tree of its expression
pub tree-expr_of : (t : Tree) → tree (expr_of t) ≡ t
tree-expr_of RowIndex = ap tree (sym rolls-I) ∙ fold-roll-Expr Tree one_level Expr-F.I
tree-expr_of ColIndex = ap tree (sym rolls-J) ∙ fold-roll-Expr Tree one_level Expr-F.J
tree-expr_of (Number c) = tree-Const c
tree-expr_of (Variable v) = ap tree (sym (rolls-Var v)) ∙ fold-roll-Expr Tree one_level (Expr-F.Var v)
tree-expr_of (Sum a b) = tree-Add (expr_of a) (expr_of b) ∙ ap₂ (λ (x y : Tree). Sum x y) (tree-expr_of a) (tree-expr_of b)
tree-expr_of (Difference a b) = tree-Sub (expr_of a) (expr_of b) ∙ ap₂ (λ (x y : Tree). Difference x y) (tree-expr_of a) (tree-expr_of b)
tree-expr_of (Quotient a k) = tree-Div (expr_of a) k ∙ ap (λ (x : Tree). Quotient x k) (tree-expr_of a)
tree-expr_of (Remainder a k) = tree-Rem (expr_of a) k ∙ ap (λ (x : Tree). Remainder x k) (tree-expr_of a)

-- the code of a tree
abbrev pub tree_code : Coded Tree
tree_code = code_by Expr expression.the_row.coded expr_of tree tree-expr_of

-- the code of a list of trees
abbrev pub trees_code : Coded (List Tree)
trees_code = coded_list tree_code

-- ---- steps

-- what each of the ways to give a value is made of
abbrev GiveParts : Type 0
GiveParts = ((ℕ ⊎ ℕ) ⊎ ((Tree × Tree) ⊎ (Tree × Tree))) ⊎ ((((Tree × Tree) × ℕ) ⊎ ((Tree × ℕ) ⊎ (Tree × ℕ))) ⊎ ((ℕ × Tree) ⊎ (ℕ × (Tree × Tree))))

abbrev parts_of : Give → GiveParts
parts_of (Itself c) = inl (inl (inl c))
parts_of (OfLevel k) = inl (inl (inr k))
parts_of (Plus a b) = inl (inr (inl (a, b)))
parts_of (Minus a b) = inl (inr (inr (a, b)))
parts_of (Joined q r k) = inr (inl (inl ((q, r), k)))
parts_of (Over a k) = inr (inl (inr (inl (a, k))))
parts_of (Rest a k) = inr (inl (inr (inr (a, k))))
parts_of (OrderAt q v) = inr (inr (inl (q, v)))
parts_of (RowsAt q l t) = inr (inr (inr (q, (l, t))))

abbrev give_from : GiveParts → Give
give_from (inl (inl (inl c))) = Itself c
give_from (inl (inl (inr k))) = OfLevel k
give_from (inl (inr (inl p))) = Plus p.0 p.1
give_from (inl (inr (inr p))) = Minus p.0 p.1
give_from (inr (inl (inl p))) = Joined p.0.0 p.0.1 p.1
give_from (inr (inl (inr (inl p)))) = Over p.0 p.1
give_from (inr (inl (inr (inr p)))) = Rest p.0 p.1
give_from (inr (inr (inl p))) = OrderAt p.0 p.1
give_from (inr (inr (inr p))) = RowsAt p.0 p.1.0 p.1.1

pub give_is : (g : Give) → give_from (parts_of g) ≡ g
give_is (Itself c) = refl
give_is (OfLevel k) = refl
give_is (Plus a b) = refl
give_is (Minus a b) = refl
give_is (Joined q r k) = refl
give_is (Over a k) = refl
give_is (Rest a k) = refl
give_is (OrderAt q v) = refl
give_is (RowsAt q l t) = refl

abbrev pair_code : Coded (Tree × Tree)
pair_code = coded× tree_code tree_code

abbrev give_code : Coded Give
give_code =
    code_by GiveParts
    (coded⊎ (coded⊎ (coded⊎ coded_ℕ coded_ℕ) (coded⊎ pair_code pair_code))
    (coded⊎ (coded⊎ (coded× pair_code coded_ℕ) (coded⊎ (coded× tree_code coded_ℕ) (coded× tree_code coded_ℕ))) (coded⊎ (coded× coded_ℕ tree_code) (coded× coded_ℕ pair_code))))
    parts_of give_from give_is

-- the code of the steps of a plan
abbrev pub steps_code : Coded Steps
steps_code = coded_list (coded× tree_code give_code)
