-- Items sorted by their coordinates, which are all different, are rows in ascending order.
use Rattle.std.specs.Cmp.{IsStrictWeakOrder}
use Rattle.std.specs.Cmp.Lexicographic.{slice_cmp}
use Rattle.std.specs.Ordering.{is_lt, nat_cmp}
use Rattle.std.specs.declared.cmp.Ordering.{Ordering}
use Rattle.std.proofs.Common.{◌≡◌, ℕ, ◌⊎◌, List, Bool, true, false, sym, refl, ◌∙◌, subst, inl, inr, arith}
use Rattle.std.proofs.lemmas.Bool.{false≢true}
use Rattle.std.proofs.lemmas.Bool.Decides.{nat_tests}
use Rattle.std.proofs.lemmas.Cmp.{same_from_slice_cmp}
use Rattle.us_format.specs.Lists.{lower}
use Rattle.us_format.proofs.Order.{lower-cases, lower-trans}
use Rattle.us_build.specs.declared.items.Item.{Item}
use Rattle.us_build.proofs.Counts.{not_lower}

pub less-is_lower : (xs ys : List ℕ) (r : Ordering) → r ≡ slice_cmp nat_cmp xs ys → is_lt r ≡ lower xs ys
less-is_lower = same_from_slice_cmp nat_cmp is_lt lower refl (λ _ _. refl) (λ _ _. refl) (λ x y xs ys o h. grind (arith, nat_tests))

pub lower-chain : (x y z : List ℕ) → lower x y ≡ false → lower y z ≡ false → lower x z ≡ false
lower-chain x y z p q = go (lower x z) refl (lower-cases x y)
  where
    go : (b : Bool) → lower x z ≡ b → (lower x y ≡ true) ⊎ ((x ≡ y) ⊎ (lower y x ≡ true)) → b ≡ false
    go false e c = refl
    go true e (inl h) = absurd (false≢true (sym p ∙ h))
    go true e (inr (inl h)) = absurd (false≢true (sym q ∙ subst (λ (w : List ℕ). lower w z ≡ true) h e))
    go true e (inr (inr h)) = absurd (false≢true (sym q ∙ lower-trans y x z h e))

abbrev pub before : Item → Item → Bool
before x y = lower x.coordinates y.coordinates

pub before-order : IsStrictWeakOrder before
before-order = record {
  one_way = λ x y h. not_lower x.coordinates y.coordinates h;
  chain = λ x y z p q. lower-chain x.coordinates y.coordinates z.coordinates p q;
}
