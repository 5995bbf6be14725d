-- Equality of trees, and membership in a list of them.
use Rattle.std.proofs.Common.{◌≡◌, ◌⊎◌, List, [], ◌∷◌, true, refl, ap, subst, inl, inr, eqb-true, eq-eqb}
use Rattle.std.proofs.lemmas.Bool.{and_parts, and_from, or_cases, or_left, or_right, false≢true}
use Rattle.us_format.proofs.Order.{Mem}
use Rattle.us_expr.specs.Tree.{ColIndex, Difference, Number, Quotient, Remainder, RowIndex, Sum, Tree, Variable}
use Rattle.us_format.specs.Known.{has, same_tree}

pub same_tree-true : (a b : Tree) → same_tree a b ≡ true → a ≡ b
same_tree-true RowIndex RowIndex h = refl
same_tree-true ColIndex ColIndex h = refl
same_tree-true (Number c) (Number d) h = ap Number (eqb-true c d h)
same_tree-true (Variable c) (Variable d) h = ap Variable (eqb-true c d h)
same_tree-true (Sum a b) (Sum c d) h = let x : a ≡ c = same_tree-true a c (and_parts _ _ h).0 in let y : b ≡ d = same_tree-true b d (and_parts _ _ h).1 in cc
same_tree-true (Difference a b) (Difference c d) h = let x : a ≡ c = same_tree-true a c (and_parts _ _ h).0 in let y : b ≡ d = same_tree-true b d (and_parts _ _ h).1 in cc
same_tree-true (Quotient a k) (Quotient b l) h = let x : a ≡ b = same_tree-true a b (and_parts _ _ h).0 in let y : k ≡ l = eqb-true k l (and_parts _ _ h).1 in cc
same_tree-true (Remainder a k) (Remainder b l) h = let x : a ≡ b = same_tree-true a b (and_parts _ _ h).0 in let y : k ≡ l = eqb-true k l (and_parts _ _ h).1 in cc
same_tree-true _ _ h = absurd (false≢true h)

pub same_tree-refl : (a : Tree) → same_tree a a ≡ true
same_tree-refl RowIndex = refl
same_tree-refl ColIndex = refl
same_tree-refl (Number c) = eq-eqb c c refl
same_tree-refl (Variable v) = eq-eqb v v refl
same_tree-refl (Sum a b) = and_from _ _ (same_tree-refl a) (same_tree-refl b)
same_tree-refl (Difference a b) = and_from _ _ (same_tree-refl a) (same_tree-refl b)
same_tree-refl (Quotient a k) = and_from _ _ (same_tree-refl a) (eq-eqb k k refl)
same_tree-refl (Remainder a k) = and_from _ _ (same_tree-refl a) (eq-eqb k k refl)

pub Mem-has : (es : List Tree) (e : Tree) → has es e ≡ true → Mem e es
Mem-has [] e h = absurd (false≢true h)
Mem-has (x ∷ es) e h = go (or_cases _ _ h) (Mem-has es e)
  where
    go : ((same_tree x e ≡ true) ⊎ (has es e ≡ true)) → (has es e ≡ true → Mem e es) → Mem e (x ∷ es)
    go (inl q) ih = inl (same_tree-true x e q)
    go (inr q) ih = inr (ih q)

pub has-Mem : (es : List Tree) (e : Tree) → Mem e es → has es e ≡ true
has-Mem [] e h = absurd h
has-Mem (x ∷ es) e (inl q) = or_left _ _ (subst (λ (z : Tree). same_tree x z ≡ true) q (same_tree-refl x))
has-Mem (x ∷ es) e (inr m) = or_right _ _ (has-Mem es e m)
