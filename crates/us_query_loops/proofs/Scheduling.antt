-- Loads and used slots, index by index, are a schedule.
use Rattle.std.specs.List.{IsFirstBest, range_with_len}
use Rattle.std.proofs.Common.{◌≡◌, ℕ, zero, suc, ◌+◌, ◌*◌, ◌/◌, ◌%◌, ◌<◌, ◌≤◌, ◌⊎◌, List, [], ◌∷◌, ◌++◌, map, length, get_or, set, replicate, Bool, cond, nat_lt, max, fold, sum, sym, refl, ap, ap₂, ◌∙◌, subst, inl, inr, arith, eq-eqb, add-one}
use Rattle.std.proofs.lemmas.Bool.{cases_eq, cases_lt, ne_eqb}
use Rattle.std.proofs.lemmas.List.{get_or-map, length_push, length-map, map-id, map-set}
use Rattle.std.proofs.lemmas.List.FromFn.{get_or-map-range_with_len, length-map-range_with_len, map-range_with_len_more}
use Rattle.std.proofs.lemmas.List.Sums.{fold_push, get_or-le-sum_by, sum-map, sum_by-take-le}
use Rattle.std.proofs.lemmas.Nat.{mul-add-lt}
use Rattle.std.proofs.lemmas.Option.{slice_get_past}
use Rattle.std.proofs.Math.Nat.{div-add-mod}
use Rattle.us_expr.specs.declared.queries.Axis.{Axis}
use Rattle.us_format.proofs.Collect.{range-distinct}
use Rattle.us_format.proofs.Lanes.{empty-length, lanes-hold, lanes-there, turns-length}
use Rattle.us_format.proofs.Queries.{rows-is}
use Rattle.us_format.specs.Lists.{greatest, nth}
use Rattle.us_format.specs.Matrix.{Entry, Shape, indices}
use Rattle.us_format.specs.Queries.{empty_lanes, lane_at, least_load, load, plus_one, put_in, rows_cell, schedule_extent, slot_at, weight}
use Rattle.us_query.specs.declared.lanes.Place.{Place}
use Rattle.us_query.specs.Lanes.{lanes_after, place_of, with_index}
use Rattle.us_query.proofs.Filling.{IsFilling, filling-more, filling-none, loads-are, turn-is}
use Rattle.us_query.proofs.Placing.{inside-lane, lane-is, slot-is}
use Rattle.us_query_loops.proofs.Best.{IsLeast, greatest-none, greatest-set, least-first, search-is}
use Rattle.us_query_loops.proofs.WeightSums.{weights-total}
use Rattle.us_query_loops.specs.Laws.{LoadsAreScheduled, LoadsSchedule}
use Rattle.us_query_loops.specs.Loads.{best_at, extent_after, lane_for, loads_after, low_at, rows_after, slot_for, used_after}

range-more : (k : ℕ) → range_with_len 0 (suc k) ≡ range_with_len 0 k ++ k ∷ []
range-more k =
    sym (map-id (range_with_len 0 (suc k)))
    ∙ ap (λ (n : ℕ). map (λ (x : ℕ). x) (range_with_len 0 n)) (sym (add-one k))
    ∙ map-range_with_len_more (λ (x : ℕ). x) 0 k k (omega arith)
    ∙ ap (λ (xs : List ℕ). xs ++ k ∷ []) (map-id (range_with_len 0 k))

no-loads : (m : List Entry) (axis : Axis) (n : ℕ) → map (load m axis) (empty_lanes n) ≡ replicate n 0
no-loads m axis zero = refl
no-loads m axis (suc n) = ap (λ (xs : List ℕ). 0 ∷ xs) (no-loads m axis n)

no-slots : (n : ℕ) → map length (empty_lanes n) ≡ replicate n 0
no-slots zero = refl
no-slots (suc n) = ap (λ (xs : List ℕ). 0 ∷ xs) (no-slots n)

module _ (s : Shape) (m : List Entry) (axis : Axis) (n high : ℕ) (some : 0 < n) (above : length m < high) (few : indices axis s ≤ 67108864) where
  abbrev count : ℕ
  count = indices axis s

  abbrev weights : List ℕ
  weights = map (weight m axis) (range_with_len 0 count)

  abbrev lanes : ℕ → List (List ℕ)
  lanes k = lanes_after m axis n k

  abbrev loads : ℕ → List ℕ
  loads k = loads_after m axis n k

  abbrev used : ℕ → List ℕ
  used k = used_after m axis n k

  abbrev lane : ℕ → ℕ
  lane k = lane_for high m axis n k

  abbrev slot : ℕ → ℕ
  slot k = slot_for high m axis n k

  abbrev place : ℕ → Place
  place a = record { lane = lane a; slot = slot a }

  abbrev places : ℕ → List Place
  places k = map place (range_with_len 0 k)

  abbrev Fills : ℕ → Type 0
  Fills k = IsFilling n weights k (lanes k) (loads k) (places k)

  weights-long : length weights ≡ count
  weights-long = length-map-range_with_len (weight m axis) 0 count

  weight-is : (k : ℕ) → k < count → get_or weights k 0 ≡ weight m axis k
  weight-is k l = get_or-map-range_with_len (weight m axis) 0 count k k 0 l (omega arith)

  weights-small : sum weights ≤ length m
  weights-small = omega (arith, sum-map (weight m axis) (range_with_len 0 count), weights-total m axis (range_with_len 0 count) (range-distinct 0 count))

  lanes-long : (k : ℕ) → length (lanes k) ≡ n
  lanes-long k = turns-length m axis (range_with_len 0 k) (empty_lanes n) ∙ empty-length m axis n

  loads-long : (k : ℕ) → length (loads k) ≡ n
  loads-long k = length-map (lanes k) (load m axis) ∙ lanes-long k

  used-long : (k : ℕ) → length (used k) ≡ n
  used-long k = length-map (lanes k) length ∙ lanes-long k

  -- ---- the search in one turn

  load-small : (k : ℕ) → Fills k → (l : ℕ) → l < n → get_or (loads k) l 0 < high
  load-small k h l p =
      omega (
        arith,
        above,
        get_or-le-sum_by (λ (x : ℕ). x) (loads k) l 0 (omega (arith, p, loads-long k)),
        h.total,
        sum_by-take-le (λ (x : ℕ). x) weights k,
        weights-small,
      )

  searched : (k : ℕ) → Fills k → IsLeast (loads k) n (lane k) (low_at high (loads k) n)
  searched k h = go n some (load-small k h)
    where
      go : (l : ℕ) → 0 < l → ((i : ℕ) → i < l → get_or (loads k) i 0 < high) → IsLeast (loads k) l (best_at high (loads k) l) (low_at high (loads k) l)
      go zero p f = absurd (omega (arith, p))
      go (suc l) p f = search-is high (loads k) l f

  best : (k : ℕ) → Fills k → IsFirstBest nat_lt (loads k) (length (loads k)) (lane k)
  best k h = least-first (loads k) (lane k) (low_at high (loads k) n) (subst (λ (l : ℕ). IsLeast (loads k) l (lane k) (low_at high (loads k) n)) (sym (loads-long k)) (searched k h))

  inside : (k : ℕ) → Fills k → lane k < length (lanes k)
  inside k h = omega (arith, (searched k h).below, lanes-long k)

  -- ---- one index more

  lanes-more : (k : ℕ) → Fills k → lanes (suc k) ≡ with_index (lanes k) (lane k) k
  lanes-more k h =
      ap (fold (λ xs x. put_in m axis (least_load m axis xs) x xs) (empty_lanes n)) (range-more k)
      ∙ fold_push (λ xs x. put_in m axis (least_load m axis xs) x xs) (empty_lanes n) (range_with_len 0 k) k
      ∙ turn-is m axis (lanes k) k (lane k) (best k h)

  loads-more : (k : ℕ) → Fills k → loads (suc k) ≡ set (loads k) (lane k) (get_or (loads k) (lane k) 0 + weight m axis k)
  loads-more k h = ap (map (load m axis)) (lanes-more k h) ∙ loads-are m axis (lanes k) k (lane k) (inside k h)

  slot-here : (k : ℕ) → Fills k → slot k ≡ length (nth (lanes k) (lane k))
  slot-here k h = get_or-map length (lanes k) (lane k) [] 0 (inside k h)

  used-more : (k : ℕ) → Fills k → used (suc k) ≡ set (used k) (lane k) (suc (slot k))
  used-more k h =
      ap (map length) (lanes-more k h)
      ∙ map-set length (lanes k) (lane k) (nth (lanes k) (lane k) ++ k ∷ [])
      ∙ ap (set (used k) (lane k)) (longer ∙ ap suc (sym (slot-here k h)))
    where
      longer : length (nth (lanes k) (lane k) ++ k ∷ []) ≡ suc (length (nth (lanes k) (lane k)))
      longer = length_push (nth (lanes k) (lane k)) k ∙ add-one (length (nth (lanes k) (lane k)))

  places-more : (k : ℕ) → places (suc k) ≡ places k ++ place k ∷ []
  places-more k = ap (λ (j : ℕ). places j) (sym (add-one k)) ∙ map-range_with_len_more place 0 k k (omega arith)

  fills : (k : ℕ) → k ≤ count → Fills k
  fills zero h = filling-none n weights (lanes zero) (loads zero) refl (no-loads m axis n)
  fills (suc k) h = go (fills k (omega (arith, h)))
    where
      l : k < count
      l = omega (arith, h)

      go : Fills k → Fills (suc k)
      go f =
          subst (λ (j : ℕ). IsFilling n weights j (lanes (suc k)) (loads (suc k)) (places (suc k))) (add-one k)
          (filling-more n weights k 0 (lanes k) (lanes (suc k)) (loads k) (loads (suc k)) (places k) (places (suc k)) (place k) (omega (arith, l, weights-long)) (omega (arith, few, weights-long)) f (best k f) (slot-here k f) (lanes-more k f)
          (loads-more k f ∙ ap (λ (w : ℕ). set (loads k) (lane k) (get_or (loads k) (lane k) 0 + w)) (sym (weight-is k l))) (places-more k))

  filled : (k : ℕ) → k < count → Fills k
  filled k l = fills k (omega (arith, l))

  -- ---- in the end

  ended : Fills count
  ended = fills count (omega arith)

  place-is : (a : ℕ) → a < count → place_of (places count) a ≡ place a
  place-is a l = get_or-map-range_with_len place 0 count a a (record { lane = 0; slot = 0 }) l (omega arith)

  places-long : length (places count) ≡ count
  places-long = length-map-range_with_len place 0 count

  lane-end : (a : ℕ) → a < count → lane a ≡ lane_at m s axis n a
  lane-end a l = sym (ap (λ (p : Place). p.lane) (place-is a l)) ∙ lane-is (lanes count) (places count) ended.placed a (omega (arith, l, places-long))

  slot-end : (a : ℕ) → a < count → slot a ≡ slot_at m s axis n a
  slot-end a l = sym (ap (λ (p : Place). p.slot) (place-is a l)) ∙ slot-is (lanes count) (places count) ended.placed a (omega (arith, l, places-long))

  extent-is : (k : ℕ) → k ≤ count → extent_after high m axis n k ≡ greatest (used k)
  extent-is zero h = sym (ap (fold max 0) (no-slots n) ∙ greatest-none n)
  extent-is (suc k) h =
      let f : Fills k = filled k (omega (arith, h)) in
      ap (λ (x : ℕ). max x (suc (slot k))) (extent-is k (omega (arith, h)))
      ∙ sym (ap (fold max 0) (used-more k f) ∙ greatest-set (used k) (lane k) (suc (slot k)) 0 (omega (arith, inside k f, lanes-long k, used-long k)) (omega arith))

  -- ---- the table

  abbrev extent : ℕ
  extent = schedule_extent m s axis n

  abbrev key : ℕ → ℕ
  key a = lane a * extent + slot a

  key-is : (a : ℕ) → a < count → (slot a < extent) × (rows_cell m s axis n (key a) ≡ suc a)
  key-is a l =
      let r = rows-is m s axis n a (lanes-there m axis s n a some l) in (
        subst (λ (x : ℕ). x < extent) (sym (slot-end a l)) r.1,
        ap₂ (λ (x y : ℕ). rows_cell m s axis n (x * extent + y)) (lane-end a l) (slot-end a l) ∙ r.2,
      )

  apart : (a b : ℕ) → a < count → b < count → key a ≡ key b → a ≡ b
  apart a b l k e = omega (arith, sym (key-is a l).1 ∙ ap (rows_cell m s axis n) e ∙ (key-is b k).1)

  rows-there : (k : ℕ) → k ≤ count → (a : ℕ) → a < k → rows_after high m axis n extent k (key a) ≡ suc a
  rows-there zero h a l = absurd (omega (arith, l))
  rows-there (suc k) h a l = go (cases_eq k a) (rows-there k (omega (arith, h)) a)
    where
      go : ((k ≡ a) ⊎ (k ≡ a → ⊥)) → (a < k → rows_after high m axis n extent k (key a) ≡ suc a) → rows_after high m axis n extent (suc k) (key a) ≡ suc a
      go (inl e) ih = ap (λ (b : Bool). cond b (suc k) (rows_after high m axis n extent k (key a))) (eq-eqb (key k) (key a) (ap key e)) ∙ ap suc e
      go (inr other) ih =
          ap (λ (b : Bool). cond b (suc k) (rows_after high m axis n extent k (key a))) (ne_eqb (key k) (key a) (λ q. other (apart k a (omega (arith, h)) (omega (arith, l, h)) q)))
          ∙ ih (at (cases_lt a k))
        where
          at : ((a < k) ⊎ (k ≤ a)) → a < k
          at (inl p) = p
          at (inr p) = absurd (other (omega (arith, l, p)))

  rows-none : (k x : ℕ) → k ≤ count → rows_cell m s axis n x ≡ 0 → rows_after high m axis n extent k x ≡ 0
  rows-none zero x h e = refl
  rows-none (suc k) x h e =
      ap (λ (b : Bool). cond b (suc k) (rows_after high m axis n extent k x))
      (ne_eqb (key k) x (λ q. absurd (omega (arith, sym (key-is k (omega (arith, h))).1 ∙ ap (rows_cell m s axis n) q ∙ e))))
      ∙ rows-none k x (omega (arith, h)) e

  rows-are : (x : ℕ) → x < n * extent → rows_after high m axis n extent count x ≡ rows_cell m s axis n x
  rows-are x h = go (cases_lt (x % extent) (length (nth (lanes count) (x / extent))))
    where
      row : List ℕ
      row = nth (lanes count) (x / extent)

      go : ((x % extent < length (nth (lanes count) (x / extent))) ⊎ (length (nth (lanes count) (x / extent)) ≤ x % extent)) → rows_after high m axis n extent count x ≡ rows_cell m s axis n x
      go (inl l) =
          let b = ended.placed.back (x / extent) (x % extent) (omega (arith, inside-lane x n extent h, lanes-long count)) l in
          there (get_or (nth (lanes count) (x / extent)) (x % extent) 0) (omega (arith, b.0, places-long)) b.1
        where
          there : (a : ℕ) → a < count → place_of (places count) a ≡ record { lane = x / extent; slot = x % extent } → rows_after high m axis n extent count x ≡ rows_cell m s axis n x
          there a p q =
              let e : place a ≡ record { lane = x / extent; slot = x % extent } = sym (place-is a p) ∙ q in
              let f : key a ≡ x = ap (λ (r : Place). r.lane * extent + r.slot) e ∙ omega (arith, div-add-mod x extent) in
              subst (λ (z : ℕ). rows_after high m axis n extent count z ≡ rows_cell m s axis n z) f (rows-there count (omega arith) a p ∙ sym (key-is a p).1)
      go (inr l) =
          let e : rows_cell m s axis n x ≡ 0 = ap plus_one (slice_get_past (nth (lanes count) (x / extent)) (x % extent) l) in
          rows-none count x (omega arith) e ∙ sym e

  pub are-scheduled : LoadsSchedule s m axis n high
  are-scheduled = record {
    long = lanes-hold m axis s n some;
    no_loads = no-loads m axis n;
    no_slots = no-slots n;
    lane_below = λ k l. (searched k (filled k l)).below;
    low = λ k l. (searched k (filled k l)).is;
    loads = λ k l. loads-more k (filled k l) ∙ ap (λ (w : ℕ). set (loads k) (lane k) (w + weight m axis k)) (sym (searched k (filled k l)).is);
    slots = λ k l. used-more k (filled k l);
    lane = lane-end;
    slot = slot-end;
    extent = extent-is count (omega arith);
    inside = λ a l. omega (arith, mul-add-lt (lane a) extent (slot a) n (searched a (filled a l)).below (key-is a l).0);
    rows = rows-are;
  }

pub loads-are-scheduled : LoadsAreScheduled
loads-are-scheduled = λ s m axis n high some above few. are-scheduled s m axis n high some above (omega (arith, few, lanes-hold m axis s n some))
