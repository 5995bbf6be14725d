-- Buffers without a difference are the buffers, written out.
use Rattle.std.proofs.Common.{◌≡◌, ℕ, zero, suc, ◌+◌, ◌-◌, ◌^◌, ◌<◌, ◌≤◌, List, [], ◌∷◌, map, length, drop, Bool, true, false, cond, not, eqb, min, ℤ, pos, sym, refl, ap, ap₂, ◌∙◌, arith, Option, Some, None, eqb-true, eq-eqb}
use Rattle.std.specs.Ordering.{int_eq}
use Rattle.std.specs.List.{range_with_len}
use Rattle.std.proofs.Math.Seq.{drop-cons}
use Rattle.std.proofs.lemmas.Bool.Decides.{Decides-int_eq}
use Rattle.std.proofs.lemmas.List.FromFn.{length-map-range_with_len, get_or-map-range_with_len}
use Rattle.us_format.specs.Lists.{then_do, or_else, when, first_from, nth, cell}
use Rattle.us_format.specs.Packs.{Buffer, written}
use Rattle.us_levels.specs.declared.differing.Difference.{Difference}
use Rattle.us_levels.specs.declared.differing.Difference.TheVariants.{Cell, Long}
use Rattle.us_levels.specs.Differences.{first_cell, difference_at, first_difference}

none-both : {A : Type 0} (a b : Option A) → or_else a b ≡ None → (a ≡ None) × (b ≡ None)
none-both None b h = (refl, h)
none-both (Some x) b h = absurd (cc)

-- ---- cells

-- no number passes, from k on
none-from : (test : ℕ → Bool) (k n : ℕ) → first_from test k n ≡ None → (x : ℕ) → x < n → test (k + x) ≡ false
none-from test k zero h x l = absurd (omega (arith, l))
none-from test k (suc n) h x l = go (test k) refl h (λ q. none-from test (suc k) n q)
  where
    go : (b : Bool) → test k ≡ b → cond b (Some k) (first_from test (suc k) n) ≡ None → (first_from test (suc k) n ≡ None → (y : ℕ) → y < n → test (suc k + y) ≡ false) → test (k + x) ≡ false
    go true e q ih = absurd (cc)
    go false e q ih = at x l
      where
        at : (y : ℕ) → y < suc n → test (k + y) ≡ false
        at zero l = ap test (omega arith) ∙ e
        at (suc y) l = ap test (omega arith) ∙ ih q y (omega (arith, l))

from-none : (test : ℕ → Bool) (k n : ℕ) → ((x : ℕ) → x < n → test (k + x) ≡ false) → first_from test k n ≡ None
from-none test k zero h = refl
from-none test k (suc n) h =
    let here : test k ≡ false = ap test (omega arith) ∙ h 0 (omega arith) in
    rw here (from-none test (suc k) n (λ x l. ap test (omega arith) ∙ h (suc x) (omega (arith, l))))

not-false : (b : Bool) → not b ≡ false → b ≡ true
not-false true h = refl
not-false false h = absurd (cc)

-- cells with the values of f are f, written out
cells-are : (f : ℕ → ℤ) (k : ℕ) (xs : List ℤ) → ((x : ℕ) → x < length xs → cell xs x ≡ f (k + x)) → xs ≡ map f (range_with_len k (length xs))
cells-are f k [] h = refl
cells-are f k (z ∷ xs) h =
    ap₂ (λ (a : ℤ) (l : List ℤ). a ∷ l) (h 0 (omega arith) ∙ ap f (omega arith))
    (cells-are f (k + 1) xs (λ x l. h (suc x) (omega (arith, l)) ∙ ap f (omega arith)))

-- ---- one buffer

none-when : {A : Type 0} (b : Bool) (a : A) → when b a ≡ None → b ≡ false
none-when true a h = absurd (cc)
none-when false a h = refl

none-then : {A B : Type 0} (o : Option A) (f : A → B) → then_do o (λ a. Some (f a)) ≡ None → o ≡ None
none-then None f h = refl
none-then (Some a) f h = absurd (cc)

pub one-same : (k : ℕ) (b : Buffer) (xs : List ℤ) → difference_at k b xs ≡ None → xs ≡ written b
one-same k b xs h =
    let both = none-both (then_do (first_cell b xs) (λ x. Some (Cell k x (cell xs x) (b.cell x)))) (when (not (eqb (length xs) b.len)) (Long k (length xs) (min b.len (2 ^ 64 - 1)))) h in
    let len : length xs ≡ b.len = eqb-true (length xs) b.len (not-false _ (none-when _ _ both.1)) in
    let cells : first_cell b xs ≡ None = none-then (first_cell b xs) (λ x. Cell k x (cell xs x) (b.cell x)) both.0 in
    cells-are b.cell 0 xs (λ x l. (Decides-int_eq (cell xs x) (b.cell x)).0 (not-false _ (ap (λ n. not (int_eq (cell xs n) (b.cell n))) (omega arith) ∙ none-from (λ n. not (int_eq (cell xs n) (b.cell n))) 0 (min (length xs) b.len) cells x (omega (arith, l, len)))) ∙ ap b.cell (omega arith))
    ∙ ap (λ n. map b.cell (range_with_len 0 n)) len

pub same-none : (k : ℕ) (b : Buffer) (xs : List ℤ) → xs ≡ written b → difference_at k b xs ≡ None
same-none k b xs h =
    let len : length xs ≡ b.len = ap length h ∙ length-map-range_with_len b.cell 0 b.len in
    let cells : first_cell b xs ≡ None = from-none (λ n. not (int_eq (cell xs n) (b.cell n))) 0 (min (length xs) b.len) (λ x l.
    ap not ((Decides-int_eq (cell xs (0 + x)) (b.cell (0 + x))).1 (ap (λ l. cell l (0 + x)) h ∙ get_or-map-range_with_len b.cell 0 b.len (0 + x) (0 + x) (pos 0) (omega (arith, l, len)) (omega arith)))) in
    rw (cells, eq-eqb (length xs) b.len len) refl

-- ---- all buffers

-- where as many buffers have no difference, from the number k on, they are the buffers
pub none-same : (k : ℕ) (bs : List Buffer) (bufs : List (List ℤ)) → length bufs ≡ k + length bs → first_difference k bs bufs ≡ None → drop k bufs ≡ map written bs
none-same k [] bufs n h = past k bufs (omega (arith, n))
  where
    past : (k : ℕ) (bufs : List (List ℤ)) → length bufs ≤ k → drop k bufs ≡ []
    past zero [] l = refl
    past zero (x ∷ xs) l = absurd (omega (arith, l))
    past (suc k) [] l = refl
    past (suc k) (x ∷ xs) l = past k xs (omega (arith, l))
none-same k (b ∷ bs) bufs n h =
    let both = none-both (difference_at k b (nth bufs k)) (first_difference (suc k) bs bufs) h in
    drop-cons bufs k [] (omega (arith, n))
    ∙ ap₂ (λ (x : List ℤ) (l : List (List ℤ)). x ∷ l) (one-same k b (nth bufs k) both.0) (none-same (suc k) bs bufs (omega (arith, n)) both.1)

-- and the buffers have none
pub same-all : (k : ℕ) (bs : List Buffer) (bufs : List (List ℤ)) → length bufs ≡ k + length bs → drop k bufs ≡ map written bs → first_difference k bs bufs ≡ None
same-all k [] bufs n h = refl
same-all k (b ∷ bs) bufs n h =
    let e : nth bufs k ∷ drop (suc k) bufs ≡ written b ∷ map written bs = sym (drop-cons bufs k [] (omega (arith, n))) ∙ h in
    let head : nth bufs k ≡ written b = cc in
    let rest : drop (suc k) bufs ≡ map written bs = cc in
    ap₂ (λ (x y : Option Difference). or_else x y) (same-none k b (nth bufs k) head) (same-all (suc k) bs bufs (omega (arith, n)) rest)
