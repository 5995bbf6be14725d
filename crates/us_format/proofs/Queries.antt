-- What ranks, counts and lanes tell.
use Rattle.std.specs.Prelude.{slice_get}
use Rattle.std.proofs.Common.{◌≡◌, ℕ, zero, suc, ◌+◌, ◌*◌, ◌<◌, ◌≤◌, ◌⊎◌, List, [], ◌∷◌, map, length, get_or, Bool, true, false, ◌||◌, ◌&&◌, eqb, ltb, max, ℤ, sym, refl, ap, ◌∙◌, subst, inl, inr, arith, Some, lt-ltb, ltb-true, le-ltb, eqb-true, eq-eqb, fold, int_eq, one-add}
use Rattle.std.proofs.lemmas.List.{length-map, get_or-map}
use Rattle.std.proofs.lemmas.Bool.{or_cases, and_parts, and_from, or_left, or_right, or_from, and_left, and_right, false≢true, cases_order, ne_eqb, cases_eq}
use Rattle.std.proofs.lemmas.Bool.Decides.{Decides-int_eq}
use Rattle.std.specs.List.{range_with_len, list_any, position_or_len}
use lib.Arith.{digits_div, digits_mod}
use Rattle.us_format.proofs.Order.{Mem}
use Rattle.us_format.proofs.Counting.{count-lt, count-lt-length}
use Rattle.us_format.proofs.Climb.{first_from-is}
use Rattle.us_format.proofs.Collect.{range-Mem, earlier-irrefl}
use Rattle.std.proofs.lemmas.List.FromFn.{length-range_with_len}
use Rattle.us_expr.specs.Tree.{Tree}
use Rattle.us_expr.specs.declared.queries.Axis.{Axis}
use Rattle.us_format.specs.Lists.{among}
use Rattle.us_format.specs.Matrix.{Entry, Shape, earlier, indices}
use Rattle.us_format.specs.Queries.{enumerate_at, lane_at, lanes_of, or_zero, order_cell, plain_value, plus_one, rank_of, rows_cell, schedule_extent, slot_at, weight}

-- ---- reorder

-- b stands before a: more entries, or as many and a lower number
abbrev pub beats : (ℕ → ℕ) → ℕ → ℕ → Bool
beats w a b = ltb (w a) (w b) || (eqb (w a) (w b) && ltb b a)

abbrev pub Beats : (ℕ → ℕ) → ℕ → ℕ → Type 0
Beats w a b = (w a < w b) ⊎ ((w a ≡ w b) × (b < a))

pub beats-true : (w : ℕ → ℕ) (a b : ℕ) → beats w a b ≡ true → Beats w a b
beats-true w a b h = go (or_cases (ltb (w a) (w b)) (eqb (w a) (w b) && ltb b a) h)
  where
    go : ((ltb (w a) (w b) ≡ true) ⊎ ((eqb (w a) (w b) && ltb b a) ≡ true)) → Beats w a b
    go (inl l) = inl (ltb-true (w a) (w b) l)
    go (inr e) = inr (eqb-true (w a) (w b) (and_parts (eqb (w a) (w b)) (ltb b a) e).0, ltb-true b a (and_parts (eqb (w a) (w b)) (ltb b a) e).1)

pub true-beats : (w : ℕ → ℕ) (a b : ℕ) → Beats w a b → beats w a b ≡ true
true-beats w a b (inl l) = or_left _ _ (lt-ltb (w a) (w b) l)
true-beats w a b (inr e) = or_right _ _ (and_from _ _ (eq-eqb (w a) (w b) e.0) (lt-ltb b a e.1))

pub beats-irrefl : (w : ℕ → ℕ) (a : ℕ) → beats w a a ≡ false
beats-irrefl w a = or_from _ _ (le-ltb (w a) (w a) (omega arith)) (and_right _ _ (le-ltb a a (omega arith)))

pub beats-trans : (w : ℕ → ℕ) (a b c : ℕ) → Beats w a b → Beats w b c → Beats w a c
beats-trans w a b c (inl x) (inl y) = inl (omega (arith, x, y))
beats-trans w a b c (inl x) (inr y) = inl (omega (arith, x, y.0))
beats-trans w a b c (inr x) (inl y) = inl (omega (arith, x.0, y))
beats-trans w a b c (inr x) (inr y) = inr (omega (arith, x.0, y.0), omega (arith, x.1, y.1))

pub beats-cases : (w : ℕ → ℕ) (a b : ℕ) → (a ≡ b → ⊥) → Beats w a b ⊎ Beats w b a
beats-cases w a b n = go (cases_order (w a) (w b)) (cases_order a b)
  where
    go : ((w a ≡ w b) ⊎ ((w a < w b) ⊎ (w b < w a))) → ((a ≡ b) ⊎ ((a < b) ⊎ (b < a))) → Beats w a b ⊎ Beats w b a
    go (inr (inl l)) q = inl (inl l)
    go (inr (inr l)) q = inr (inl l)
    go (inl e) (inl q) = absurd (n q)
    go (inl e) (inr (inl l)) = inr (inr (sym e, l))
    go (inl e) (inr (inr l)) = inl (inr (e, l))

module _ (m : List Entry) (s : Shape) (axis : Axis) where
  pub rank-less : (a b : ℕ) → a < indices axis s → Beats (weight m axis) b a → rank_of m s axis a < rank_of m s axis b
  rank-less a b la h =
      count-lt (beats (weight m axis) a) (beats (weight m axis) b) (range_with_len 0 (indices axis s)) a
      (λ c mc t. true-beats (weight m axis) b c (beats-trans (weight m axis) b a c h (beats-true (weight m axis) a c t)))
      (range-Mem 0 (indices axis s) a (omega arith) (omega (arith, la))) (beats-irrefl (weight m axis) a) (true-beats (weight m axis) b a h)

  -- indices with one rank are one
  pub rank-tells : (a b : ℕ) → a < indices axis s → b < indices axis s → rank_of m s axis a ≡ rank_of m s axis b → a ≡ b
  rank-tells a b la lb e = go (cases_eq a b)
    where
      two : (Beats (weight m axis) a b ⊎ Beats (weight m axis) b a) → ⊥
      two (inl h) = omega (arith, rank-less b a lb h, e)
      two (inr h) = omega (arith, rank-less a b la h, e)

      go : ((a ≡ b) ⊎ (a ≡ b → ⊥)) → a ≡ b
      go (inl q) = q
      go (inr n) = absurd (two (beats-cases (weight m axis) a b n))

  pub rank-below : (a : ℕ) → a < indices axis s → rank_of m s axis a < indices axis s
  rank-below a la =
      omega (arith, count-lt-length (beats (weight m axis) a) (range_with_len 0 (indices axis s)) a (range-Mem 0 (indices axis s) a (omega arith) (omega (arith, la))) (beats-irrefl (weight m axis) a), length-range_with_len 0 (indices axis s))

  -- the table has at each rank the index
  pub order-is : (a : ℕ) → a < indices axis s → order_cell m s axis (rank_of m s axis a) ≡ a
  order-is a la =
      ap or_zero (first_from-is (λ b. eqb (rank_of m s axis b) (rank_of m s axis a)) 0 (indices axis s) a (omega arith) (omega (arith, la)) (eq-eqb _ _ refl)
      (λ k _ l. ne_eqb _ _ (λ e. absurd (omega (arith, l, rank-tells k a (omega (arith, l, la)) la e)))))

-- ---- enumerate

pub earlier-cases : (x y : Entry) → ((x.i ≡ y.i) × (x.j ≡ y.j)) ⊎ ((earlier x y ≡ true) ⊎ (earlier y x ≡ true))
earlier-cases x y = go (cases_order x.i y.i) (cases_order x.j y.j)
  where
    go : ((x.i ≡ y.i) ⊎ ((x.i < y.i) ⊎ (y.i < x.i))) → ((x.j ≡ y.j) ⊎ ((x.j < y.j) ⊎ (y.j < x.j))) → ((x.i ≡ y.i) × (x.j ≡ y.j)) ⊎ ((earlier x y ≡ true) ⊎ (earlier y x ≡ true))
    go (inl e) (inl f) = inl (e, f)
    go (inl e) (inr (inl l)) = inr (inl (or_right _ _ (and_from _ _ (eq-eqb x.i y.i e) (lt-ltb x.j y.j l))))
    go (inl e) (inr (inr l)) = inr (inr (or_right _ _ (and_from _ _ (eq-eqb y.i x.i (sym e)) (lt-ltb y.j x.j l))))
    go (inr (inl l)) q = inr (inl (or_left _ _ (lt-ltb x.i y.i l)))
    go (inr (inr l)) q = inr (inr (or_left _ _ (lt-ltb y.i x.i l)))

pub earlier-trans : (x y z : Entry) → earlier x y ≡ true → earlier y z ≡ true → earlier x z ≡ true
earlier-trans x y z p q = go (or_cases (ltb x.i y.i) (eqb x.i y.i && ltb x.j y.j) p) (or_cases (ltb y.i z.i) (eqb y.i z.i && ltb y.j z.j) q)
  where
    go : ((ltb x.i y.i ≡ true) ⊎ ((eqb x.i y.i && ltb x.j y.j) ≡ true)) → ((ltb y.i z.i ≡ true) ⊎ ((eqb y.i z.i && ltb y.j z.j) ≡ true)) → earlier x z ≡ true
    go (inl a) (inl b) = or_left _ _ (lt-ltb x.i z.i (omega (arith, ltb-true x.i y.i a, ltb-true y.i z.i b)))
    go (inl a) (inr b) = or_left _ _ (lt-ltb x.i z.i (omega (arith, ltb-true x.i y.i a, eqb-true y.i z.i (and_parts (eqb y.i z.i) (ltb y.j z.j) b).0)))
    go (inr a) (inl b) = or_left _ _ (lt-ltb x.i z.i (omega (arith, eqb-true x.i y.i (and_parts (eqb x.i y.i) (ltb x.j y.j) a).0, ltb-true y.i z.i b)))
    go (inr a) (inr b) =
        or_right _ _ (and_from _ _ (eq-eqb x.i z.i (eqb-true x.i y.i (and_parts (eqb x.i y.i) (ltb x.j y.j) a).0 ∙ eqb-true y.i z.i (and_parts (eqb y.i z.i) (ltb y.j z.j) b).0))
        (lt-ltb x.j z.j (omega (arith, ltb-true x.j y.j (and_parts (eqb x.i y.i) (ltb x.j y.j) a).1, ltb-true y.j z.j (and_parts (eqb y.i z.i) (ltb y.j z.j) b).1))))

-- an earlier entry with the same value has the lower number
pub enumerate-less : (m : List Entry) (e : Tree) (x y : Entry) → Mem x m → earlier x y ≡ true → plain_value e x ≡ plain_value e y → enumerate_at m e x < enumerate_at m e y
enumerate-less m e x y mx h v =
    count-lt (λ z. earlier z x && int_eq (plain_value e z) (plain_value e x)) (λ z. earlier z y && int_eq (plain_value e z) (plain_value e y)) m x
    (λ z mz t. let p = and_parts (earlier z x) (int_eq (plain_value e z) (plain_value e x)) t in
    and_from _ _ (earlier-trans z x y p.0 h) (subst (λ (a : ℤ). int_eq (plain_value e z) a ≡ true) v p.1))
    mx (and_left _ _ (not-self x)) (and_from _ _ h ((Decides-int_eq (plain_value e x) (plain_value e y)).1 v))
  where
    not-self : (x : Entry) → earlier x x ≡ false
    not-self x = go (earlier x x) refl
      where
        go : (b : Bool) → earlier x x ≡ b → b ≡ false
        go true q = absurd (earlier-irrefl x q)
        go false q = refl

-- number and value tell the coordinate
pub enumerate-tell : (m : List Entry) (e : Tree) (x y : Entry) → Mem x m → Mem y m → plain_value e x ≡ plain_value e y → enumerate_at m e x ≡ enumerate_at m e y → (x.i ≡ y.i) × (x.j ≡ y.j)
enumerate-tell m e x y mx my v h = go (earlier-cases x y)
  where
    go : (((x.i ≡ y.i) × (x.j ≡ y.j)) ⊎ ((earlier x y ≡ true) ⊎ (earlier y x ≡ true))) → (x.i ≡ y.i) × (x.j ≡ y.j)
    go (inl q) = q
    go (inr (inl l)) = absurd (omega (arith, enumerate-less m e x y mx l v, h))
    go (inr (inr l)) = absurd (omega (arith, enumerate-less m e y x my l (sym v), h))

-- ---- schedule

pub found-first : {A : Type 0} (t : A → Bool) (xs : List A) (d : A) → list_any t xs ≡ true → (position_or_len t xs < length xs) × (t (get_or xs (position_or_len t xs) d) ≡ true)
found-first t [] d h = absurd (false≢true h)
found-first {A} t (x ∷ xs) d h = go (t x) refl (found-first t xs d)
  where
    go : (b : Bool) → t x ≡ b → (list_any t xs ≡ true → (position_or_len t xs < length xs) × (t (get_or xs (position_or_len t xs) d) ≡ true))
        → (position_or_len t (x ∷ xs) < length (x ∷ xs)) × (t (get_or (x ∷ xs) (position_or_len t (x ∷ xs)) d) ≡ true)
    go true e ih = rw e (omega arith, e)
    go false e ih =
        let r : (position_or_len t xs < length xs) × (t (get_or xs (position_or_len t xs) d) ≡ true) = ih (later (or_cases (t x) (list_any t xs) h)) in
        rw (e, one-add) (omega (arith, r.0), r.1)
      where
        later : ((t x ≡ true) ⊎ (list_any t xs ≡ true)) → list_any t xs ≡ true
        later (inl q) = absurd (false≢true (sym e ∙ q))
        later (inr q) = q

pub get-is : (xs : List ℕ) (k d : ℕ) → k < length xs → slice_get xs k ≡ Some (get_or xs k d)
get-is [] k d h = absurd (omega arith)
get-is (x ∷ xs) zero d h = refl
get-is (x ∷ xs) (suc k) d h = get-is xs k d (omega arith)

pub fold-max : (a : ℕ) (xs : List ℕ) → a ≤ fold max a xs
fold-max a [] = omega arith
fold-max a (x ∷ xs) = omega (arith, fold-max (max a x) xs)

pub fold-max-at : (a : ℕ) (xs : List ℕ) (k d : ℕ) → k < length xs → get_or xs k d ≤ fold max a xs
fold-max-at a [] k d h = absurd (omega arith)
fold-max-at a (x ∷ xs) zero d h = omega (arith, fold-max (max a x) xs)
fold-max-at a (x ∷ xs) (suc k) d h = fold-max-at (max a x) xs k d (omega arith)

module _ (m : List Entry) (s : Shape) (axis : Axis) (n : ℕ) where
  abbrev pub lanes : List (List ℕ)
  lanes = lanes_of m s axis n

  -- an index that stands in some lane is found again at its lane and slot
  pub rows-is : (a : ℕ) → list_any (among a) lanes ≡ true
      → (lane_at m s axis n a < length lanes) × (slot_at m s axis n a < schedule_extent m s axis n)
      × (rows_cell m s axis n (lane_at m s axis n a * schedule_extent m s axis n + slot_at m s axis n a) ≡ suc a)
  rows-is a h =
      let f = found-first (among a) lanes [] h in
      let g = found-first (eqb a) (get_or lanes (lane_at m s axis n a) []) 0 f.1 in
      let long : length (get_or lanes (lane_at m s axis n a) []) ≤ schedule_extent m s axis n =
      subst (λ (k : ℕ). k ≤ schedule_extent m s axis n) (get_or-map length lanes (lane_at m s axis n a) [] 0 f.0)
      (fold-max-at 0 (map length lanes) (lane_at m s axis n a) 0 (rw (length-map lanes length) f.0)) in
      let in_lane : slot_at m s axis n a < schedule_extent m s axis n = omega (arith, g.0, long) in (
        f.0,
        in_lane,
        rw (digits_div (lane_at m s axis n a) in_lane, digits_mod (lane_at m s axis n a) in_lane)
            (ap plus_one (get-is (get_or lanes (lane_at m s axis n a) []) (slot_at m s axis n a) 0 g.0) ∙ ap suc (sym (eqb-true a _ g.1))),
      )
