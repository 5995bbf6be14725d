-- Sorted indices are the order table.
use Rattle.std.specs.Cmp.{IsStrictWeakOrder}
use Rattle.std.specs.Ordering.{nat_cmp, is_lt, ordering_then}
use Rattle.std.specs.List.{range_with_len}
use Rattle.std.specs.List.Sorted.{IsPermutation, IsSortedBy}
use Rattle.std.proofs.Common.{Less, Equal, Greater, ◌≡◌, ℕ, ◌+◌, ◌<◌, ◌≤◌, ◌⊎◌, List, [], ◌∷◌, ◌++◌, map, length, get_or, take, Bool, true, false, cond, ◌&&◌, ◌||◌, eqb, ltb, sym, refl, ap, ap₂, ◌∙◌, subst, inl, inr, arith, All, AllPairs, count_by, lt-ltb, ltb-true, eqb-true, eq-eqb}
use Rattle.std.proofs.lemmas.Bool.{or_cases, and_parts, and_from, or_left, or_right, false≢true, cases_order}
use Rattle.std.proofs.lemmas.Bool.Decides.{Decides-eqb}
use Rattle.std.proofs.lemmas.List.{ext_get_or, get_or-map, length-map, map_more, take_all}
use Rattle.std.proofs.lemmas.List.FromFn.{get_or-map-range_with_len, get_or-range_with_len, length-range_with_len}
use Rattle.std.proofs.lemmas.List.Sorted.{All-permutation, IsPermutation-map, length_permutation, sorted_far, sum_by-IsPermutation}
use Rattle.std.proofs.lemmas.Map.Keys.{IsDistinct-IsPermutation}
use Rattle.std.proofs.lemmas.Map.Made.{AllPairs-from_IsDistinct, IsDistinct-from_AllPairs}
use Rattle.us_expr.specs.declared.queries.Axis.{Axis}
use Rattle.us_format.specs.Matrix.{Entry, Shape, indices}
use Rattle.us_format.specs.Queries.{order_cell, rank_of, weight}
use Rattle.us_format.proofs.Queries.{order-is}
use Rattle.us_query.specs.declared.order.Weighted.{Weighted}
use Rattle.us_query.specs.Ranked.{AreRanked, goes_before, ranked_at}
use Rattle.us_query.proofs.EntryCounts.{count-front, count-map}

-- ---- the order

abbrev pub Before : Weighted → Weighted → Type 0
Before r s = (s.weight < r.weight) ⊎ ((s.weight ≡ r.weight) × (r.index < s.index))

abbrev pub NotBefore : Weighted → Weighted → Type 0
NotBefore r s = (r.weight ≤ s.weight) × (r.weight ≡ s.weight → s.index ≤ r.index)

before-true : (r s : Weighted) → goes_before r s ≡ true → Before r s
before-true r s h = go (or_cases (ltb s.weight r.weight) _ h)
  where
    go : ((ltb s.weight r.weight ≡ true) ⊎ ((eqb s.weight r.weight && ltb r.index s.index) ≡ true)) → Before r s
    go (inl l) = inl (ltb-true s.weight r.weight l)
    go (inr e) = inr (eqb-true s.weight r.weight (and_parts _ _ e).0, ltb-true r.index s.index (and_parts _ _ e).1)

true-before : (r s : Weighted) → Before r s → goes_before r s ≡ true
true-before r s (inl l) = or_left _ _ (lt-ltb s.weight r.weight l)
true-before r s (inr e) = or_right _ _ (and_from _ _ (eq-eqb s.weight r.weight e.0) (lt-ltb r.index s.index e.1))

not-before : (r s : Weighted) → goes_before r s ≡ false → NotBefore r s
not-before r s h = (weights (cases_order r.weight s.weight), λ e. numbers e (cases_order r.index s.index))
  where
    weights : ((r.weight ≡ s.weight) ⊎ ((r.weight < s.weight) ⊎ (s.weight < r.weight))) → r.weight ≤ s.weight
    weights (inl e) = omega (arith, e)
    weights (inr (inl l)) = omega (arith, l)
    weights (inr (inr l)) = absurd (false≢true (sym h ∙ true-before r s (inl l)))

    numbers : r.weight ≡ s.weight → ((r.index ≡ s.index) ⊎ ((r.index < s.index) ⊎ (s.index < r.index))) → s.index ≤ r.index
    numbers e (inl q) = omega (arith, q)
    numbers e (inr (inl l)) = absurd (false≢true (sym h ∙ true-before r s (inr (sym e, l))))
    numbers e (inr (inr l)) = omega (arith, l)

before-not : (r s : Weighted) → NotBefore r s → goes_before r s ≡ false
before-not r s h = go (goes_before r s) refl
  where
    never : Before r s → ⊥
    never (inl l) = omega (arith, l, h.0)
    never (inr e) = omega (arith, e.1, h.1 (sym e.0))

    go : (b : Bool) → goes_before r s ≡ b → b ≡ false
    go true e = absurd (never (before-true r s e))
    go false e = refl

pub before-order : IsStrictWeakOrder goes_before
before-order = record {
  one_way = λ x y h. before-not y x (one-way x y (before-true x y h));
  chain = λ x y z p q. before-not x z (chained x y z (not-before x y p) (not-before y z q));
}
  where
    one-way : (x y : Weighted) → Before x y → NotBefore y x
    one-way x y (inl l) = (omega (arith, l), λ e. absurd (omega (arith, l, e)))
    one-way x y (inr h) = (omega (arith, h.0), λ e. omega (arith, h.1))

    chained : (x y z : Weighted) → NotBefore x y → NotBefore y z → NotBefore x z
    chained x y z p q = (omega (arith, p.0, q.0), λ e. omega (arith, p.1 (omega (arith, p.0, q.0, e)), q.1 (omega (arith, p.0, q.0, e))))

thens : (p q r s : Bool) → is_lt (ordering_then (cond p Less (cond q Equal Greater)) (cond r Less (cond s Equal Greater))) ≡ (p || (q && r))
thens true q r s = refl
thens false true true s = refl
thens false true false true = refl
thens false true false false = refl
thens false false r s = refl

pub compare-is : (a b : Weighted) → is_lt (ordering_then (nat_cmp b.weight a.weight) (nat_cmp a.index b.index)) ≡ goes_before a b
compare-is a b = thens (ltb b.weight a.weight) (eqb b.weight a.weight) (ltb a.index b.index) (eqb a.index b.index)

-- ---- the table

range-distinct : (n : ℕ) → AllPairs (λ x y. x ≡ y → ⊥) (range_with_len 0 n)
range-distinct n i j d l k e =
    let m : j < n = omega (arith, k, length-range_with_len 0 n) in
    absurd (omega (arith, l, sym (get_or-range_with_len 0 n i d (omega (arith, l, m))) ∙ e ∙ get_or-range_with_len 0 n j d m))

module _ (m : List Entry) (s : Shape) (axis : Axis) where
  abbrev pub own : ℕ → Weighted
  own a = record { weight = weight m axis a; index = a }

  abbrev pub count : ℕ
  count = indices axis s

  module _ (rs : List Weighted) (moved : IsPermutation (map own (range_with_len 0 count)) rs) (sorted : IsSortedBy goes_before rs) where
    abbrev none : Weighted
    none = record { weight = 0; index = 0 }

    long : length rs ≡ count
    long = length_permutation (map own (range_with_len 0 count)) rs moved ∙ length-map (range_with_len 0 count) own ∙ length-range_with_len 0 count

    abbrev Owned : Weighted → Type 0
    Owned r = (r ≡ own r.index) × (r.index < count)

    each : All Owned rs
    each = All-permutation Owned (map own (range_with_len 0 count)) rs moved (λ k e l. start k e (omega (arith, l, length-map (range_with_len 0 count) own, length-range_with_len 0 count)))
      where
        start : (k : ℕ) (e : Weighted) → k < count → Owned (get_or (map own (range_with_len 0 count)) k e)
        start k e l = subst (λ (r : Weighted). (r ≡ own r.index) × (r.index < count)) (sym (get_or-map-range_with_len own 0 count k k e l (omega arith))) (refl, l)

    indices-moved : IsPermutation (range_with_len 0 count) (map (λ (r : Weighted). r.index) rs)
    indices-moved = subst (λ (l : List ℕ). IsPermutation l (map (λ (r : Weighted). r.index) rs)) (back (range_with_len 0 count)) (IsPermutation-map (λ (r : Weighted). r.index) (map own (range_with_len 0 count)) rs moved)
      where
        back : (xs : List ℕ) → map (λ (r : Weighted). r.index) (map own xs) ≡ xs
        back [] = refl
        back (x ∷ xs) = ap (λ (l : List ℕ). x ∷ l) (back xs)

    flips : (x y : ℕ) → eqb x y ≡ eqb y x
    flips x y = go (eqb x y) (eqb y x) refl refl
      where
        go : (a b : Bool) → eqb x y ≡ a → eqb y x ≡ b → a ≡ b
        go true true p q = refl
        go false false p q = refl
        go true false p q = absurd (false≢true (sym q ∙ eq-eqb y x (sym (eqb-true x y p))))
        go false true p q = absurd (false≢true (sym p ∙ eq-eqb x y (sym (eqb-true y x q))))

    apart : (i j : ℕ) → i < j → j < length rs → (get_or rs i none).index ≡ (get_or rs j none).index → ⊥
    apart i j l k e =
        AllPairs-from_IsDistinct Decides-eqb (map (λ (r : Weighted). r.index) rs)
        (IsDistinct-IsPermutation eqb flips (range_with_len 0 count) (map (λ (r : Weighted). r.index) rs) indices-moved (IsDistinct-from_AllPairs Decides-eqb (range_with_len 0 count) (range-distinct count)))
        i j 0 l (omega (arith, k, length-map rs (λ (r : Weighted). r.index)))
        (get_or-map (λ (r : Weighted). r.index) rs i none 0 (omega (arith, l, k)) ∙ e ∙ sym (get_or-map (λ (r : Weighted). r.index) rs j none 0 k))

    before-here : (i x : ℕ) → i < x → x < length rs → goes_before (get_or rs i none) (get_or rs x none) ≡ true
    before-here i x l k = true-before (get_or rs i none) (get_or rs x none) (go (not-before (get_or rs x none) (get_or rs i none) (sorted_far goes_before before-order rs sorted i x none (omega (arith, l)) k)) (cases_order (get_or rs x none).weight (get_or rs i none).weight))
      where
        go : NotBefore (get_or rs x none) (get_or rs i none)
            → (((get_or rs x none).weight ≡ (get_or rs i none).weight) ⊎ (((get_or rs x none).weight < (get_or rs i none).weight) ⊎ ((get_or rs i none).weight < (get_or rs x none).weight)))
            → Before (get_or rs i none) (get_or rs x none)
        go h (inl e) = inr (e, lower (cases_order (get_or rs i none).index (get_or rs x none).index))
          where
            lower : (((get_or rs i none).index ≡ (get_or rs x none).index) ⊎ (((get_or rs i none).index < (get_or rs x none).index) ⊎ ((get_or rs x none).index < (get_or rs i none).index)))
                → (get_or rs i none).index < (get_or rs x none).index
            lower (inl q) = absurd (apart i x l k q)
            lower (inr (inl q)) = q
            lower (inr (inr q)) = absurd (omega (arith, q, h.1 e))
        go h (inr (inl q)) = inl q
        go h (inr (inr q)) = absurd (omega (arith, q, h.0))

    rank-here : (x : ℕ) → x < length rs → rank_of m s axis (get_or rs x none).index ≡ x
    rank-here x l =
        let r : Weighted = get_or rs x none in
        let owned : r ≡ own r.index = (each x none l).0 in
        sym (ap (λ (q : Weighted). count_by (λ b. goes_before (own b) q) (range_with_len 0 count)) owned)
        ∙ sym (count-map own (λ q. goes_before q r) (range_with_len 0 count))
        ∙ sym (sum_by-IsPermutation (λ q. cond (goes_before q r) 1 0) (map own (range_with_len 0 count)) rs moved)
        ∙ count-front (λ q. goes_before q r) rs x none (omega (arith, l)) (λ i h. before-here i x h l) (λ i h k. sorted_far goes_before before-order rs sorted x i none h k)

    pub table-is : map (λ (r : Weighted). r.index) rs ≡ map (order_cell m s axis) (range_with_len 0 count)
    table-is =
        ext_get_or 0 _ _ (length-map rs (λ (r : Weighted). r.index) ∙ long ∙ sym (length-map (range_with_len 0 count) (order_cell m s axis) ∙ length-range_with_len 0 count))
        (λ x l. at x (omega (arith, l, length-map rs (λ (r : Weighted). r.index))))
      where
        at : (x : ℕ) → x < length rs → get_or (map (λ (r : Weighted). r.index) rs) x 0 ≡ get_or (map (order_cell m s axis) (range_with_len 0 count)) x 0
        at x l =
            let a : ℕ = (get_or rs x none).index in
            get_or-map (λ (r : Weighted). r.index) rs x none 0 l ∙ sym (order-is m s axis a (each x none l).1) ∙ ap (order_cell m s axis) (rank-here x l)
            ∙ sym (get_or-map-range_with_len (order_cell m s axis) 0 count x x 0 (omega (arith, l, long)) (omega arith))

    pub ranked : AreRanked m s axis (map (λ (r : Weighted). r.index) rs)
    ranked x l =
        let k : x < length rs = omega (arith, l, long) in
        subst (λ (a : ℕ). (a < count) × (rank_of m s axis a ≡ x)) (sym (get_or-map (λ (r : Weighted). r.index) rs x none 0 k)) ((each x none k).1, rank-here x k)

  -- the weighted indices that the code makes
  pub made-own : (ws : List ℕ) → ws ≡ map (weight m axis) (range_with_len 0 count) → map (ranked_at ws) (range_with_len 0 (length ws)) ≡ map own (range_with_len 0 count)
  made-own ws h =
      let n : length ws ≡ count = ap length h ∙ length-map (range_with_len 0 count) (weight m axis) ∙ length-range_with_len 0 count in
      ap (λ (k : ℕ). map (ranked_at ws) (range_with_len 0 k)) n
      ∙ ext_get_or (record { weight = 0; index = 0 }) _ _ (length-map (range_with_len 0 count) (ranked_at ws) ∙ sym (length-map (range_with_len 0 count) own))
      (λ x l. at x (omega (arith, l, length-map (range_with_len 0 count) (ranked_at ws), length-range_with_len 0 count)))
    where
      at : (x : ℕ) → x < count → get_or (map (ranked_at ws) (range_with_len 0 count)) x (record { weight = 0; index = 0 }) ≡ get_or (map own (range_with_len 0 count)) x (record { weight = 0; index = 0 })
      at x l =
          get_or-map-range_with_len (ranked_at ws) 0 count x x (record { weight = 0; index = 0 }) l (omega arith)
          ∙ ap (λ (w : ℕ). record { weight = w; index = x }) (ap (λ (v : List ℕ). get_or v x 0) h ∙ get_or-map-range_with_len (weight m axis) 0 count x x 0 l (omega arith))
          ∙ sym (get_or-map-range_with_len own 0 count x x (record { weight = 0; index = 0 }) l (omega arith))

-- a step of the loop over the weights
pub weighted-next : (ws : List ℕ) (k : ℕ) (old new : List Weighted) (r : Weighted) → k < length ws → new ≡ old ++ r ∷ [] → r ≡ ranked_at ws k → old ≡ map (ranked_at ws) (take k (range_with_len 0 (length ws)))
    → new ≡ map (ranked_at ws) (take (k + 1) (range_with_len 0 (length ws)))
weighted-next ws k old new r l q e i =
    let here : get_or (range_with_len 0 (length ws)) k 0 ≡ k = get_or-range_with_len 0 (length ws) k 0 l ∙ omega arith in
    q ∙ ap₂ (λ (x : List Weighted) (y : Weighted). x ++ y ∷ []) i (e ∙ ap (ranked_at ws) (sym here))
    ∙ sym (map_more (ranked_at ws) (range_with_len 0 (length ws)) k 0 (omega (arith, l, length-range_with_len 0 (length ws))))

pub weighted-end : (ws : List ℕ) (k : ℕ) (made : List Weighted) → length ws ≤ k → made ≡ map (ranked_at ws) (take k (range_with_len 0 (length ws))) → made ≡ map (ranked_at ws) (range_with_len 0 (length ws))
weighted-end ws k made l h = h ∙ ap (map (ranked_at ws)) (take_all k (range_with_len 0 (length ws)) (omega (arith, l, length-range_with_len 0 (length ws))))

pub weights-long : (m : List Entry) (s : Shape) (axis : Axis) (ws : List ℕ) → ws ≡ map (weight m axis) (range_with_len 0 (indices axis s)) → length ws ≡ indices axis s
weights-long m s axis ws h = ap length h ∙ length-map (range_with_len 0 (indices axis s)) (weight m axis) ∙ length-range_with_len 0 (indices axis s)
