-- The lanes that a matrix gives, index by index.
use Rattle.std.proofs.Common.{◌≡◌, ℕ, zero, suc, ◌+◌, ◌<◌, ◌≤◌, ◌⊎◌, List, [], ◌∷◌, ◌++◌, map, length, get_or, set, take, replicate, fold, Bool, true, false, cond, ltb, sym, refl, ap, ◌∙◌, subst, inl, inr, arith, eq-eqb, nat_lt, sum}
use Rattle.std.specs.List.{IsFirstBest, range_with_len}
use Rattle.std.proofs.lemmas.Bool.{cases_Bool, ne_eqb}
use Rattle.std.proofs.lemmas.Bool.Decides.{nat_tests}
use Rattle.std.proofs.lemmas.List.{get_or_default, get_or-map, length_push, length-map, length-replicate, length-set, map-id, map-set}
use Rattle.std.proofs.lemmas.List.FromFn.{get_or-map-range_with_len, map-range_with_len_more}
use Rattle.std.proofs.lemmas.List.Sums.{fold_push, sum_by-cons, sum_by_more, sum_by_push, sum_by-set, sum_by-take-le}
use Rattle.us_expr.specs.declared.queries.Axis.{Axis}
use Rattle.us_format.specs.Lists.{nth}
use Rattle.us_format.specs.Matrix.{Entry}
use Rattle.us_format.specs.Queries.{empty_lanes, least, least_load, load, put_in, weight}
use Rattle.us_format.proofs.Lanes.{least-Mem}
use Rattle.us_format.proofs.Members.{Mem-contains}
use Rattle.us_query.specs.declared.lanes.Place.{Place}
use Rattle.us_query.specs.Lanes.{AreWeights, IsPlaced, lanes_after, with_index}
use Rattle.us_query.proofs.Placing.{placed-more, placed-none}

-- ---- the least of numbers

pick-low : (a b : ℕ) → (cond (ltb b a) b a ≤ a) × (cond (ltb b a) b a ≤ b)
pick-low a b = go (cases_Bool (ltb b a))
  where
    go : ((ltb b a ≡ true) ⊎ (ltb b a ≡ false)) → (cond (ltb b a) b a ≤ a) × (cond (ltb b a) b a ≤ b)
    go (inl e) = rw e (grind (arith, nat_tests), omega arith)
    go (inr e) = rw e (omega arith, grind (arith, nat_tests))

least-low : (bs : List ℕ) (a : ℕ) → least bs a ≤ a
least-low [] a = omega arith
least-low (b ∷ bs) a = omega (arith, least-low bs (cond (ltb b a) b a), (pick-low a b).0)

least-each : (bs : List ℕ) (a k : ℕ) → k < length bs → least bs a ≤ get_or bs k 0
least-each [] a k h = absurd (omega (arith, h))
least-each (b ∷ bs) a zero h = omega (arith, least-low bs (cond (ltb b a) b a), (pick-low a b).1)
least-each (b ∷ bs) a (suc k) h = least-each bs (cond (ltb b a) b a) k (omega (arith, h))

least-all : (bs : List ℕ) (a k : ℕ) → k < length (a ∷ bs) → least bs a ≤ get_or (a ∷ bs) k 0
least-all bs a zero h = least-low bs a
least-all bs a (suc k) h = least-each bs a k (omega (arith, h))

not-less : (a b : ℕ) → ltb a b ≡ false → b ≤ a
not-less a b h = grind (arith, nat_tests)

less : (a b : ℕ) → ltb a b ≡ true → a < b
less a b h = grind (arith, nat_tests)

-- the best is the least
pub best-least : (bs : List ℕ) (a p : ℕ) → IsFirstBest nat_lt (a ∷ bs) (length (a ∷ bs)) p → get_or (a ∷ bs) p 0 ≡ least bs a
best-least bs a p h =
    let r = Mem-contains (a ∷ bs) (least bs a) (least-Mem bs a) in
    omega (
      arith,
      not-less (get_or (a ∷ bs) r.0 0) (get_or (a ∷ bs) p 0) (h.1 r.0 0 r.1),
      get_or_default (a ∷ bs) r.0 0 (least bs a) r.1 ∙ r.2,
      least-all bs a p h.0,
    )

module _ (m : List Entry) (axis : Axis) where
  abbrev loads_of : List (List ℕ) → List ℕ
  loads_of lanes = map (load m axis) lanes

  -- ---- one index more

  put-there : (low a : ℕ) (lanes : List (List ℕ)) (p : ℕ) → p < length lanes → load m axis (nth lanes p) ≡ low → ((q : ℕ) → q < p → load m axis (nth lanes q) ≡ low → ⊥)
      → put_in m axis low a lanes ≡ with_index lanes p a
  put-there low a [] p l h b = absurd (omega (arith, l))
  put-there low a (lane ∷ lanes) zero l h b = ap (λ (t : Bool). cond t ((lane ++ a ∷ []) ∷ lanes) (lane ∷ put_in m axis low a lanes)) (eq-eqb (load m axis lane) low h)
  put-there low a (lane ∷ lanes) (suc p) l h b =
      ap (λ (t : Bool). cond t ((lane ++ a ∷ []) ∷ lanes) (lane ∷ put_in m axis low a lanes)) (ne_eqb (load m axis lane) low (b 0 (omega arith)))
      ∙ ap (λ (xs : List (List ℕ)). lane ∷ xs) (put-there low a lanes p (omega (arith, l)) h (λ q k. b (suc q) (omega (arith, k))))

  pub turn-is : (lanes : List (List ℕ)) (a p : ℕ) → IsFirstBest nat_lt (loads_of lanes) (length (loads_of lanes)) p → put_in m axis (least_load m axis lanes) a lanes ≡ with_index lanes p a
  turn-is [] a p h = absurd (omega (arith, h.0))
  turn-is (lane ∷ lanes) a p h =
      put-there (least (loads_of lanes) (load m axis lane)) a (lane ∷ lanes) p inside (sym (get_or-map (load m axis) (lane ∷ lanes) p [] 0 inside) ∙ low) before
    where
      low : get_or (loads_of (lane ∷ lanes)) p 0 ≡ least (loads_of lanes) (load m axis lane)
      low = best-least (loads_of lanes) (load m axis lane) p h

      inside : p < length (lane ∷ lanes)
      inside = omega (arith, h.0, length-map (lane ∷ lanes) (load m axis))

      before : (q : ℕ) → q < p → load m axis (nth (lane ∷ lanes) q) ≡ least (loads_of lanes) (load m axis lane) → ⊥
      before q k e =
          omega (
            arith,
            less (get_or (loads_of (lane ∷ lanes)) p 0) (get_or (loads_of (lane ∷ lanes)) q 0) (h.2 q 0 k),
            get_or-map (load m axis) (lane ∷ lanes) q [] 0 (omega (arith, k, inside)),
            e,
            low,
          )

  pub loads-are : (lanes : List (List ℕ)) (a p : ℕ) → p < length lanes → loads_of (with_index lanes p a) ≡ set (loads_of lanes) p (get_or (loads_of lanes) p 0 + weight m axis a)
  loads-are lanes a p l =
      map-set (load m axis) lanes p (nth lanes p ++ a ∷ [])
      ∙ ap (λ (x : ℕ). set (loads_of lanes) p x)
      (sum_by_push (weight m axis) (nth lanes p) a ∙ ap (λ (x : ℕ). x + weight m axis a) (sym (get_or-map (load m axis) lanes p [] 0 l)))

  loads-none : (n : ℕ) → loads_of (empty_lanes n) ≡ replicate n 0
  loads-none zero = refl
  loads-none (suc n) = ap (λ (xs : List ℕ). 0 ∷ xs) (loads-none n)

range-more : (k : ℕ) → range_with_len 0 (k + 1) ≡ range_with_len 0 k ++ k ∷ []
range-more k = sym (map-id (range_with_len 0 (k + 1))) ∙ map-range_with_len_more (λ (x : ℕ). x) 0 k k (omega arith) ∙ ap (λ (xs : List ℕ). xs ++ k ∷ []) (map-id (range_with_len 0 k))

-- ---- what the loop keeps

pub record IsFilling (n : ℕ) (weights : List ℕ) (k : ℕ) (lanes : List (List ℕ)) (loads : List ℕ) (places : List Place) : Type 0 where
  pub count : length places ≡ k
  pub placed : IsPlaced lanes places
  pub long : length lanes ≡ n
  pub equal : length loads ≡ length lanes
  pub total : sum loads ≡ sum (take k weights)
  pub spread : (m : List Entry) (axis : Axis) → AreWeights m axis weights → (lanes ≡ lanes_after m axis n k) × (loads ≡ loads_of m axis lanes)

sum-none : (n : ℕ) → sum (replicate n 0) ≡ 0
sum-none zero = refl
sum-none (suc n) = sum_by-cons (λ (x : ℕ). x) 0 (replicate n 0) ∙ omega (arith, sum-none n)

pub filling-none : (n : ℕ) (weights : List ℕ) (lanes : List (List ℕ)) (loads : List ℕ) → lanes ≡ empty_lanes n → loads ≡ replicate n 0 → IsFilling n weights 0 lanes loads []
filling-none n weights lanes loads e f =
    subst (λ (xs : List (List ℕ)). IsFilling n weights 0 xs loads []) (sym e)
    (subst (λ (ys : List ℕ). IsFilling n weights 0 (empty_lanes n) ys []) (sym f) start)
  where
    start : IsFilling n weights 0 (empty_lanes n) (replicate n 0) []
    start = record {
      count = refl;
      placed = placed-none n;
      long = empty-long n;
      equal = length-replicate n 0 ∙ sym (empty-long n);
      total = sum-none n;
      spread = λ m axis h. (refl, sym (loads-none m axis n));
    }
      where
        empty-long : (k : ℕ) → length (empty_lanes k) ≡ k
        empty-long zero = refl
        empty-long (suc k) = ap suc (empty-long k)

pub filling-more : (n : ℕ) (weights : List ℕ) (k d : ℕ) (lanes lanes_now : List (List ℕ)) (loads loads_now : List ℕ) (places places_now : List Place) (place : Place)
    → k < length weights → length weights ≤ 67108864 → IsFilling n weights k lanes loads places
    → IsFirstBest nat_lt loads (length loads) place.lane → place.slot ≡ length (nth lanes place.lane) → lanes_now ≡ with_index lanes place.lane k
    → loads_now ≡ set loads place.lane (get_or loads place.lane 0 + get_or weights k d) → places_now ≡ places ++ place ∷ [] → IsFilling n weights (k + 1) lanes_now loads_now places_now
filling-more n weights k d lanes lanes_now loads loads_now places places_now place l few h best slot e f g = record {
  count = ap (λ (xs : List Place). length xs) g ∙ length_push places place ∙ omega (arith, h.count);
  placed = moved;
  long = omega (arith, wide, h.long);
  equal = omega (arith, ap (λ (xs : List ℕ). length xs) f, length-set loads p (get_or loads p 0 + get_or weights k d), h.equal, wide);
  total =
      ap (λ (xs : List ℕ). sum xs) f
      ∙ omega (arith, sum_by-set (λ (x : ℕ). x) loads p (get_or loads p 0 + get_or weights k d) 0 best.0, h.total, sum_by_more (λ (x : ℕ). x) weights k d l);
  spread = λ m axis a. let s = h.spread m axis a in (turned m axis s.0 s.1, loaded m axis a s.1);
}
  where
    p : ℕ
    p = place.lane

    inside : p < length lanes
    inside = omega (arith, best.0, h.equal)

    wide : length lanes_now ≡ length lanes
    wide = ap (λ (xs : List (List ℕ)). length xs) e ∙ length-set lanes p (nth lanes p ++ k ∷ [])

    moved : IsPlaced lanes_now places_now
    moved =
        subst (λ (xs : List (List ℕ)). IsPlaced xs places_now) (sym e ∙ refl)
        (subst (λ (ps : List Place). IsPlaced (with_index lanes p k) ps) (sym g)
        (subst (λ (q : Place). IsPlaced (with_index lanes p k) (places ++ q ∷ [])) same_place
        (subst (λ (x : ℕ). IsPlaced (with_index lanes p x) (places ++ record { lane = p; slot = length (nth lanes p) } ∷ [])) h.count
        (placed-more lanes places p inside h.placed (omega (arith, h.count, l, few))))))
      where
        same_place : record { lane = p; slot = length (nth lanes p) } ≡ place
        same_place = λ i. record { lane = place.lane; slot = sym slot i }

    turned : (m : List Entry) (axis : Axis) → lanes ≡ lanes_after m axis n k → loads ≡ loads_of m axis lanes → lanes_now ≡ lanes_after m axis n (k + 1)
    turned m axis a b =
        e ∙ sym (turn-is m axis lanes k p (subst (λ (xs : List ℕ). IsFirstBest nat_lt xs (length xs) p) b best))
        ∙ ap (λ (xs : List (List ℕ)). put_in m axis (least_load m axis xs) k xs) a
        ∙ sym (ap (fold (λ xs x. put_in m axis (least_load m axis xs) x xs) (empty_lanes n)) (range-more k)
        ∙ fold_push (λ xs x. put_in m axis (least_load m axis xs) x xs) (empty_lanes n) (range_with_len 0 k) k)

    loaded : (m : List Entry) (axis : Axis) → AreWeights m axis weights → loads ≡ loads_of m axis lanes → loads_now ≡ loads_of m axis lanes_now
    loaded m axis a b =
        f
        ∙ ap (λ (xs : List ℕ). set xs p (get_or xs p 0 + get_or weights k d)) b
        ∙ ap (λ (w : ℕ). set (loads_of m axis lanes) p (get_or (loads_of m axis lanes) p 0 + w)) (weight-at m axis a)
        ∙ sym (loads-are m axis lanes k p inside)
        ∙ ap (loads_of m axis) (sym e)
      where
        weight-at : (m : List Entry) (axis : Axis) → AreWeights m axis weights → get_or weights k d ≡ weight m axis k
        weight-at m axis a = ap (λ (xs : List ℕ). get_or xs k d) a ∙ get_or-map-range_with_len (weight m axis) 0 (length weights) k k d l (omega arith)

-- the load of a lane with one more weight is at most the sum of all weights
pub total-bound : (n : ℕ) (weights : List ℕ) (k d : ℕ) (lanes : List (List ℕ)) (loads : List ℕ) (places : List Place) → k < length weights → IsFilling n weights k lanes loads places
    → sum loads + get_or weights k d ≤ sum weights
total-bound n weights k d lanes loads places l h = omega (arith, h.total, sum_by_more (λ (x : ℕ). x) weights k d l, sum_by-take-le (λ (x : ℕ). x) weights (k + 1))
