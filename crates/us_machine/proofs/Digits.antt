-- Numbers of digits, and the places behind them.
use Rattle.std.proofs.Common.{◌≡◌, ℕ, zero, suc, ◌+◌, ◌*◌, ◌%◌, ◌<◌, ◌≤◌, Bool, true, false, cond, nat_lt, List, [], ◌∷◌, map, length, drop, get_or, ℤ, pos, negsuc, refl, sym, ap, ap₂, ◌∙◌, subst, arith, mul_assoc, mul_comm, mul-one, inl, inr}
use Rattle.std.specs.Prelude.{◌-ℤ◌, ◌≤ℤ◌, unsigned_abs}
use Rattle.std.specs.List.{All, range_with_len}
use Rattle.std.specs.List.Sorted.{IsPermutation, IsSortedBy, IsSortedByKey}
use Rattle.std.specs.Ordering.{nat_cmp}
use Rattle.std.proofs.lemmas.Bool.{cases_lt}
use Rattle.std.proofs.lemmas.Bool.Decides.{nat_tests}
use Rattle.std.proofs.lemmas.Int.{ints}
use Rattle.std.proofs.lemmas.List.{length-map, get_or-map, drop_all, drop_more}
use Rattle.std.proofs.lemmas.List.Elements.{All-nil, All-cons, All-head, All-tail, All-get_or, All-drop}
use Rattle.std.proofs.lemmas.List.Sorted.{All-permutation, IsPermutation-map, IsNonDecreasingBy-from_sort}
use Rattle.std.proofs.lemmas.Nat.{mul-le, mul-add-lt, mod-mul-add}
use lib.Signed.{lt_z}
use Rattle.us_code.specs.Sort.{before, ordered}
use Rattle.us_machine.specs.declared.packing.Digit.{Digit}
use Rattle.us_machine.specs.Packing.{IsDigit, count_from, digit_at, list_of, number_from}
use Rattle.us_machine.proofs.Sortings.{are_ordered}

-- a number that isn't negative is its size
size : (z : ℤ) → pos 0 ≤ℤ z → pos (unsigned_abs z) ≡ z
size (pos n) h = refl
size (negsuc n) h = absurd (omega (arith, ints))

above : (low a : ℤ) → low ≤ℤ a → pos (unsigned_abs (a -ℤ low)) ≡ a -ℤ low
above low a h = size (a -ℤ low) (omega (arith, ints))

lower : (low a b : ℤ) → low ≤ℤ a → low ≤ℤ b → lt_z a b ≡ true → unsigned_abs (a -ℤ low) < unsigned_abs (b -ℤ low)
lower low a b h k lt = let e = above low a h in let f = above low b k in grind (arith, ints)

level : (low a b : ℤ) → low ≤ℤ a → low ≤ℤ b → lt_z a b ≡ false → lt_z b a ≡ false → unsigned_abs (a -ℤ low) ≡ unsigned_abs (b -ℤ low)
level low a b h k p q = let e = above low a h in let f = above low b k in grind (arith, ints)

-- the cells in front of a place lie between these
abbrev pub Between : List ℤ → ℕ → ℤ → ℤ → Type 0
Between xs x low high = (y : ℕ) → y < x → (low ≤ℤ get_or xs y (pos 0)) × (get_or xs y (pos 0) ≤ℤ high)

step : (p q r a b : ℕ) → p < q → a < r → p * r + a < q * r + b
step p q r a b lt l = omega (arith, mul-add-lt p r a q lt l, mul_comm r q)

lt_true : (a b : ℕ) → a < b → nat_lt a b ≡ true
lt_true a b h = grind (arith, nat_tests)

lt_false : (a b : ℕ) → b ≤ a → nat_lt a b ≡ false
lt_false a b h = grind (arith, nat_tests)

same_front : (n x y : ℕ) → nat_lt (n + x) (n + y) ≡ nat_lt x y
same_front n x y = elim (cases_lt x y) [
  | inl l ↦ lt_true (n + x) (n + y) (omega (arith, l)) ∙ sym (lt_true x y l)
  | inr le ↦ lt_false (n + x) (n + y) (omega (arith, le)) ∙ sym (lt_false x y le)
]

by_tests : (m l : ℕ) (r u v : Bool) → (u ≡ true → m < l) → (v ≡ true → l < m) → (u ≡ false → v ≡ false → nat_lt m l ≡ r) → nat_lt m l ≡ cond u true (cond v false r)
by_tests m l r true v f g h = lt_true m l (f refl)
by_tests m l r false true f g h = let k = g refl in lt_false m l (omega (arith, k))
by_tests m l r false false f g h = h refl refl

count_more : (ds : List Digit) (p q : ℕ) → p ≤ q → count_from p ds ≤ count_from q ds
count_more [] p q h = h
count_more (d ∷ ds) p q h = count_more ds (p * d.radix) (q * d.radix) (mul-le p d.radix q d.radix h (omega arith))

module _ (lists : List (List ℤ)) (n base : ℕ) (room : n ≤ base) where
  abbrev Are : List Digit → Type 0
  Are ds = All (IsDigit lists n) ds

  -- a lower number in front stays lower
  rising : (ds : List Digit) (p q x y : ℕ) → Are ds → x < n → y < n → p < q → number_from lists base p ds x < number_from lists base q ds y
  rising [] p q x y h lx ly lt = step p q base x y lt (omega (arith, lx, room))
  rising (d ∷ ds) p q x y h lx ly lt =
      let k = All-head (IsDigit lists n) d ds h in
      rising ds (p * d.radix + digit_at lists d x) (q * d.radix + digit_at lists d y) x y (All-tail (IsDigit lists n) d ds h) lx ly
      (step p q d.radix (digit_at lists d x) (digit_at lists d y) lt (k.below x lx))

  -- numbers behind one number stand in the order of the keys
  tells : (ds : List Digit) (p x y : ℕ) → Are ds → x < n → y < n → nat_lt (number_from lists base p ds x) (number_from lists base p ds y) ≡ before (map (list_of lists) ds) x y
  tells [] p x y h lx ly = same_front (p * base) x y
  tells (d ∷ ds) p x y h lx ly =
      let k = All-head (IsDigit lists n) d ds h in
      let rest = All-tail (IsDigit lists n) d ds h in
      let a = get_or (list_of lists d) x (pos 0) in
      let b = get_or (list_of lists d) y (pos 0) in
      let m = p * d.radix + digit_at lists d x in
      let l = p * d.radix + digit_at lists d y in
      let ka = k.least x lx in
      let kb = k.least y ly in
      by_tests (number_from lists base m ds x) (number_from lists base l ds y) (before (map (list_of lists) ds) x y) (lt_z a b) (lt_z b a)
      (λ e. rising ds m l x y rest lx ly (let lt = lower d.low a b ka kb e in omega (arith, lt)))
      (λ e. rising ds l m y x rest ly lx (let lt = lower d.low b a kb ka e in omega (arith, lt)))
      (λ e f. ap (λ (v : ℕ). nat_lt (number_from lists base m ds x) (number_from lists base (p * d.radix + v) ds y)) (sym (level d.low a b ka kb e f)) ∙ tells ds m x y rest lx ly)

  -- the place behind the digits
  behind : (ds : List Digit) (p x : ℕ) → x < n → number_from lists base p ds x % base ≡ x
  behind [] p x lx = mod-mul-add p base x (omega (arith, lx, room))
  behind (d ∷ ds) p x lx = behind ds (p * d.radix + digit_at lists d x) x lx

  count_least : (ds : List Digit) (p x : ℕ) → Are ds → x < n → p ≤ count_from p ds
  count_least [] p x h lx = omega arith
  count_least (d ∷ ds) p x h lx =
      let k = All-head (IsDigit lists n) d ds h in
      let b = k.below x lx in
      let up = mul-le p 1 p d.radix (omega arith) (omega (arith, b)) in
      omega (arith, up, mul-one p, count_least ds (p * d.radix) x (All-tail (IsDigit lists n) d ds h) lx)

  -- with one more digit there is room for the digits behind it
  next_narrow : (d : Digit) (ds : List Digit) (p x m : ℕ) → IsDigit lists n d → Are ds → x < n → count_from ((p + 1) * base) (d ∷ ds) ≤ m
      → (p * d.radix + digit_at lists d x < m) × (count_from ((p * d.radix + digit_at lists d x + 1) * base) ds ≤ m)
  next_narrow d ds p x m k rest lx h =
      let q = p * d.radix + digit_at lists d x + 1 in
      let lt = mul-add-lt p d.radix (digit_at lists d x) (p + 1) (omega arith) (k.below x lx) in
      let le = mul-le q base (d.radix * (p + 1)) base (omega (arith, lt)) (omega arith) in
      let same : d.radix * (p + 1) * base ≡ (p + 1) * base * d.radix = mul_assoc d.radix (p + 1) base ∙ mul_comm d.radix ((p + 1) * base) in
      let up = count_more ds (q * base) ((p + 1) * base * d.radix) (omega (arith, le, same)) in
      let one = mul-le q 1 q base (omega arith) (omega (arith, lx, room)) in
      (omega (arith, up, h, one, mul-one q, count_least ds (q * base) x rest lx), omega (arith, up, h))

  -- the same at the digit of a turn
  pub turn_narrow : (ds : List Digit) (i p x m : ℕ) (z : Digit) → Are ds → x < n → i < length ds → count_from ((p + 1) * base) (drop i ds) ≤ m
      → (p * (get_or ds i z).radix + digit_at lists (get_or ds i z) x < m) × (count_from ((p * (get_or ds i z).radix + digit_at lists (get_or ds i z) x + 1) * base) (drop (i + 1) ds) ≤ m)
  turn_narrow ds i p x m z are lx lt h =
      next_narrow (get_or ds i z) (drop (i + 1) ds) p x m (All-get_or (IsDigit lists n) ds i z lt are) (All-drop (IsDigit lists n) (i + 1) ds are) lx
      (subst (λ (xs : List Digit). count_from ((p + 1) * base) xs ≤ m) (drop_more ds i z lt) h)

  -- behind all digits there is room for the place
  pub last_narrow : (ds : List Digit) (i p x m : ℕ) → x < n → length ds ≤ i → count_from ((p + 1) * base) (drop i ds) ≤ m → p * base + x < m
  last_narrow ds i p x m lx le h =
      let lt = mul-add-lt p base x (p + 1) (omega arith) (omega (arith, lx, room)) in
      let k : (p + 1) * base ≤ m = subst (λ (xs : List Digit). count_from ((p + 1) * base) xs ≤ m) (drop_all i ds le) h in
      omega (arith, lt, k, mul_comm base (p + 1))

  module _ (ds : List Digit) (are : Are ds) where
    abbrev number : ℕ → ℕ
    number = number_from lists base 0 ds

    abbrev place : ℕ → ℕ
    place m = m % base

    places : (k m : ℕ) → k + m ≤ n → map place (map number (range_with_len k m)) ≡ range_with_len k m
    places k zero h = refl
    places k (suc m) h = ap₂ (λ (x : ℕ) (xs : List ℕ). x ∷ xs) (behind ds 0 k (omega (arith, h))) (places (k + 1) m (omega (arith, h)))

    abbrev Is : ℕ → Type 0
    Is z = (place z < n) × (number (place z) ≡ z)

    is : (k : ℕ) → k < n → Is (number k)
    is k lt = let e = behind ds 0 k lt in (subst (λ (v : ℕ). v < n) (sym e) lt, ap number e)

    each : (k m : ℕ) → k + m ≤ n → All Is (map number (range_with_len k m))
    each k zero h = All-nil Is
    each k (suc m) h = All-cons Is (number k) (map number (range_with_len (k + 1) m)) (is k (omega (arith, h))) (each (k + 1) m (omega (arith, h)))

    in_order : (new : List ℕ) → All Is new → IsSortedByKey (λ x. x) nat_cmp new → IsSortedBy (before (map (list_of lists) ds)) (map place new)
    in_order new h up = λ k d from lt.
        let l : k + 1 < length new = omega (arith, lt, length-map new place) in
        let a = get_or new (k + 1) 0 in
        let b = get_or new k 0 in
        let ia = All-get_or Is new (k + 1) 0 l h in
        let ib = All-get_or Is new k 0 (omega (arith, l)) h in
        let rise : b ≤ a = IsNonDecreasingBy-from_sort (λ x. x) new up k (k + 1) 0 (omega arith) l in
        ap₂ (before (map (list_of lists) ds)) (get_or-map place new (k + 1) 0 d l) (get_or-map place new k 0 d (omega (arith, l)))
        ∙ (sym (tells ds 0 (place a) (place b) are ia.0 ib.0) ∙ (ap₂ nat_lt ia.1 ib.1 ∙ lt_false a b rise))

    -- the places behind the sorted numbers
    pub numbers_ordered : (old new : List ℕ) → old ≡ map number (range_with_len 0 n) → IsPermutation old new → IsSortedByKey (λ x. x) nat_cmp new → map place new ≡ ordered (map (list_of lists) ds) n
    numbers_ordered old new e moved up =
        let le : 0 + n ≤ n = omega arith in
        let all : All Is old = subst (λ (xs : List ℕ). All Is xs) (sym e) (each 0 n le) in
        are_ordered (map (list_of lists) ds) n (map place old) (map place new) (ap (map place) e ∙ places 0 n le) (IsPermutation-map place old new moved)
        (in_order new (All-permutation Is old new moved all) up)
