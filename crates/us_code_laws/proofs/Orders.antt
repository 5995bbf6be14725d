-- The order by keys is strict and total, so sorting by it ranks.
use Rattle.std.proofs.Common.{◌≡◌, ◌≢◌, ℕ, zero, suc, ◌+◌, ◌<◌, Bool, true, false, cond, nat_lt, refl, sym, ap, ◌∙◌, subst, arith, List, [], ◌∷◌, length, ℤ, pos, negsuc, ◌⊎◌, inl, inr}
use Rattle.std.specs.Prelude.{slice_index_or}
use Rattle.std.specs.List.{range_with_len}
use Rattle.std.proofs.lemmas.Bool.Decides.{nat_tests}
use lib.Signed.{lt_z}
use Rattle.us_code.specs.Sort.{before, ordered}
use Rattle.us_code_laws.specs.Ordered.{OrderedByKeys}
use Rattle.us_code_laws.proofs.Sorts.{IsOrder, Lacks, Distinct, count_sort, rises_sort, rises_at, place_is_rank, length_sort, length_range, ordered_lt}

lt_self : (a : ℕ) → nat_lt a a ≡ false
lt_self a = grind (arith, nat_tests)

lt_trans : (a b c : ℕ) → nat_lt a b ≡ true → nat_lt b c ≡ true → nat_lt a c ≡ true
lt_trans a b c h k = grind (arith, nat_tests)

lt_eq : (a b : ℕ) → nat_lt a b ≡ false → nat_lt b a ≡ false → a ≡ b
lt_eq a b h k = grind (arith, nat_tests)

lt_other : (a b : ℕ) → a ≢ b → nat_lt a b ≡ false → nat_lt b a ≡ true
lt_other a b n h = grind (arith, nat_tests)

not_less : (a : ℤ) → lt_z a a ≡ false
not_less (pos a) = lt_self a
not_less (negsuc a) = lt_self a

less_less : (a b c : ℤ) → lt_z a b ≡ true → lt_z b c ≡ true → lt_z a c ≡ true
less_less (pos a) (pos b) (pos c) h k = lt_trans a b c h k
less_less (pos a) (pos b) (negsuc c) h k = absurd cc
less_less (pos a) (negsuc b) c h k = absurd cc
less_less (negsuc a) (pos b) (pos c) h k = refl
less_less (negsuc a) (pos b) (negsuc c) h k = absurd cc
less_less (negsuc a) (negsuc b) (pos c) h k = refl
less_less (negsuc a) (negsuc b) (negsuc c) h k = lt_trans c b a k h

neither_less : (a b : ℤ) → lt_z a b ≡ false → lt_z b a ≡ false → a ≡ b
neither_less (pos a) (pos b) h k = ap pos (lt_eq a b h k)
neither_less (pos a) (negsuc b) h k = absurd cc
neither_less (negsuc a) (pos b) h k = absurd cc
neither_less (negsuc a) (negsuc b) h k = ap negsuc (sym (lt_eq b a h k))

-- a key decides, or the keys after it do
by_key : (a b : ℤ) (r : Bool) → cond (lt_z a b) true (cond (lt_z b a) false r) ≡ true → (lt_z a b ≡ true) ⊎ ((a ≡ b) × (r ≡ true))
by_key a b r h = case (lt_z a b) (lt_z b a) refl refl h
  where
    case : (p q : Bool) → lt_z a b ≡ p → lt_z b a ≡ q → cond p true (cond q false r) ≡ true → (lt_z a b ≡ true) ⊎ ((a ≡ b) × (r ≡ true))
    case true q e f h = inl e
    case false true e f h = absurd cc
    case false false e f h = inr (neither_less a b e f, h)

not_by_key : (a b : ℤ) (r : Bool) → cond (lt_z a b) true (cond (lt_z b a) false r) ≡ false → (lt_z b a ≡ true) ⊎ ((a ≡ b) × (r ≡ false))
not_by_key a b r h = case (lt_z a b) (lt_z b a) refl refl h
  where
    case : (p q : Bool) → lt_z a b ≡ p → lt_z b a ≡ q → cond p true (cond q false r) ≡ false → (lt_z b a ≡ true) ⊎ ((a ≡ b) × (r ≡ false))
    case true q e f h = absurd cc
    case false true e f h = inl f
    case false false e f h = inr (neither_less a b e f, h)

less_first : (a b : ℤ) (r : Bool) → lt_z a b ≡ true → cond (lt_z a b) true (cond (lt_z b a) false r) ≡ true
less_first a b r e = ap (λ p. cond p true (cond (lt_z b a) false r)) e

equal_then : (a b : ℤ) (r : Bool) → a ≡ b → r ≡ true → cond (lt_z a b) true (cond (lt_z b a) false r) ≡ true
equal_then a b r e h = subst (λ (z : ℤ). cond (lt_z a z) true (cond (lt_z z a) false r) ≡ true) e (ap (λ p. cond p true (cond p false r)) (not_less a) ∙ h)

before_self : (keys : List (List ℤ)) (x : ℕ) → before keys x x ≡ false
before_self [] x = lt_self x
before_self (k ∷ ks) x = ap (λ p. cond p true (cond p false (before ks x x))) (not_less (slice_index_or k x (pos 0))) ∙ before_self ks x

before_before : (keys : List (List ℤ)) (x y z : ℕ) → before keys x y ≡ true → before keys y z ≡ true → before keys x z ≡ true
before_before [] x y z h k = lt_trans x y z h k
before_before (key ∷ ks) x y z h k =
    let a = slice_index_or key x (pos 0) in
    let b = slice_index_or key y (pos 0) in
    let c = slice_index_or key z (pos 0) in
    case a b c (before ks x z) (by_key a b (before ks x y) h) (by_key b c (before ks y z) k) (before_before ks x y z)
  where
    case : (a b c : ℤ) (r : Bool) {p q : Bool} → (lt_z a b ≡ true) ⊎ ((a ≡ b) × (p ≡ true)) → (lt_z b c ≡ true) ⊎ ((b ≡ c) × (q ≡ true)) → (p ≡ true → q ≡ true → r ≡ true) → cond (lt_z a c) true (cond (lt_z c a) false r) ≡ true
    case a b c r (inl e) (inl f) w = less_first a c r (less_less a b c e f)
    case a b c r (inl e) (inr f) w = less_first a c r (subst (λ (v : ℤ). lt_z a v ≡ true) f.0 e)
    case a b c r (inr e) (inl f) w = less_first a c r (subst (λ (v : ℤ). lt_z v c ≡ true) (sym e.0) f)
    case a b c r (inr e) (inr f) w = equal_then a c r (e.0 ∙ f.0) (w e.1 f.1)

before_total : (keys : List (List ℤ)) (x y : ℕ) → x ≢ y → before keys x y ≡ false → before keys y x ≡ true
before_total [] x y n h = lt_other x y n h
before_total (key ∷ ks) x y n h =
    let a = slice_index_or key x (pos 0) in
    let b = slice_index_or key y (pos 0) in
    case a b (before ks y x) (not_by_key a b (before ks x y) h) (before_total ks x y n)
  where
    case : (a b : ℤ) (r : Bool) {p : Bool} → (lt_z b a ≡ true) ⊎ ((a ≡ b) × (p ≡ false)) → (p ≡ false → r ≡ true) → cond (lt_z b a) true (cond (lt_z a b) false r) ≡ true
    case a b r (inl e) w = less_first b a r e
    case a b r (inr e) w = equal_then b a r (sym e.0) (w e.1)

pub by_keys : (keys : List (List ℤ)) → IsOrder (before keys)
by_keys keys = record { irreflexive = before_self keys; transitive = before_before keys; total = before_total keys }

differs : (x k : ℕ) → x < k → x ≢ k
differs x k h = omega (arith, h)

module _ (keys : List (List ℤ)) where
  lacks : (x k m : ℕ) → x < k → Lacks (before keys) (by_keys keys) x (range_with_len k m)
  lacks x k zero h = tt
  lacks x k (suc m) h = (differs x k h, lacks x (k + 1) m (omega arith))

  distinct : (k m : ℕ) → Distinct (before keys) (by_keys keys) (range_with_len k m)
  distinct k zero = tt
  distinct k (suc m) = (lacks k (k + 1) m (omega arith), distinct (k + 1) m)

  long : (n : ℕ) → length (ordered keys n) ≡ n
  long n = length_sort (before keys) (range_with_len 0 n) ∙ length_range 0 n

pub ordered_by_keys : OrderedByKeys
ordered_by_keys = record {
  long = long;
  in_range = λ keys n q lt. ordered_lt keys n q lt;
  all = λ keys n p. count_sort (before keys) (by_keys keys) p (range_with_len 0 n);
  ascending = λ keys n q r lt rn. rises_at (before keys) (by_keys keys) (ordered keys n) (rises_sort (before keys) (by_keys keys) (range_with_len 0 n) (distinct keys 0 n)) q r lt (omega (arith, rn, long keys n));
  place = λ keys n q lt. place_is_rank (before keys) (by_keys keys) (range_with_len 0 n) (distinct keys 0 n) q (omega (arith, lt, long keys n));
}
