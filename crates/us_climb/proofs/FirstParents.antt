-- The first parent of a position.
use Rattle.std.proofs.Common.{◌≡◌, ℕ, zero, suc, ◌+◌, ◌<◌, ◌≤◌, ◌⊎◌, List, length, Bool, true, false, not, ◌&&◌, ℤ, pos, refl, ap, ◌∙◌, inl, inr, arith, Option, Some, None}
use Rattle.std.specs.Prelude.{if◌then◌else◌}
use Rattle.std.proofs.lemmas.Bool.{cases_lt}
use Rattle.std.proofs.lemmas.Bool.Decides.{nat_tests}
use Rattle.std.proofs.lemmas.List.{get_or_past}
use Rattle.us_format.specs.Lists.{cell, first_from}
use Rattle.us_format.specs.Climb.{at_most, is_parent, parent_of}
use Rattle.us_format.proofs.Climb.{first_from-is}

-- ---- the first of some numbers

first_none : (test : ℕ → Bool) (p n : ℕ) → ((k : ℕ) → p ≤ k → k < p + n → test k ≡ false) → first_from test p n ≡ None
first_none test p zero h = refl
first_none test p (suc n) h = go (test p) (h p (omega arith) (omega arith)) (first_none test (suc p) n (λ k l m. h k (omega arith) (omega arith)))
  where
    go : (b : Bool) → b ≡ false → first_from test (suc p) n ≡ None → ◌≡◌ {A = Option ℕ} (if b then Some p else first_from test (suc p) n) None
    go true e ih = absurd cc
    go false e ih = ih

-- ---- parents

pub no_parent_below : (starts : List ℤ) (x k : ℕ) → at_most (cell starts k) x ≡ false → is_parent starts x k ≡ false
no_parent_below starts x k h = ap (λ b. b && not (at_most (cell starts (suc k)) x)) h

and_false : (a : Bool) → (a && false) ≡ false
and_false true = refl
and_false false = refl

pub no_parent_above : (starts : List ℤ) (x k : ℕ) → at_most (cell starts (suc k)) x ≡ true → is_parent starts x k ≡ false
no_parent_above starts x k h = ap (λ b. at_most (cell starts k) x && not b) h ∙ and_false (at_most (cell starts k) x)

-- behind the last start stands 0
pub last_no_parent : (starts : List ℤ) (x k : ℕ) → length starts ≤ suc k → is_parent starts x k ≡ false
last_no_parent starts x k l = no_parent_above starts x k (ap (λ z. at_most z x) (get_or_past starts (suc k) (pos 0) l) ∙ grind (arith, nat_tests))

pub first_parent : (starts : List ℤ) (x q : ℕ) → q < length starts → is_parent starts x q ≡ true → ((k : ℕ) → k < q → is_parent starts x k ≡ false) → parent_of starts x ≡ Some q
first_parent starts x q l is before = first_from-is (is_parent starts x) 0 (length starts) q (omega arith) (omega arith) is (λ k _ m. before k m)

pub parent_found : (starts : List ℤ) (x q : ℕ) → q < length starts → at_most (cell starts q) x ≡ true → at_most (cell starts (suc q)) x ≡ false → ((k : ℕ) → k < q → is_parent starts x k ≡ false)
    → parent_of starts x ≡ Some q
parent_found starts x q l low high before =
    first_from-is (is_parent starts x) 0 (length starts) q (omega arith) (omega arith) (ap (λ b. b && not (at_most (cell starts (suc q)) x)) low ∙ ap not high) (λ k _ m. before k m)

pub parent_none : (starts : List ℤ) (x : ℕ) → ((k : ℕ) → suc k < length starts → is_parent starts x k ≡ false) → parent_of starts x ≡ None
parent_none starts x none = first_none (is_parent starts x) 0 (length starts) (λ k _ l. go k (cases_lt (suc k) (length starts)))
  where
    go : (k : ℕ) → ((suc k < length starts) ⊎ (length starts ≤ suc k)) → is_parent starts x k ≡ false
    go k (inl h) = none k h
    go k (inr h) = last_no_parent starts x k h
