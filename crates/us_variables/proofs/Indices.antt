-- Variables are numbers that an index may be.
use Rattle.std.proofs.Common.{◌≡◌, ℕ, zero, suc, ◌<◌, ◌≤◌, ◌⊎◌, List, [], ◌∷◌, map, length, Bool, true, false, not, ◌&&◌, ◌||◌, cond, eqb, ltb, ℤ, pos, sym, refl, ◌∙◌, subst, inl, inr, arith, All}
use Rattle.std.specs.List.{range_with_len, sum_by}
use Rattle.std.specs.Ordering.{int_eq}
use Rattle.std.proofs.lemmas.Bool.{cases_lt}
use Rattle.std.proofs.lemmas.Int.{ints}
use Rattle.std.proofs.lemmas.List.FromFn.{length-range_with_len}
use Rattle.std.proofs.lemmas.List.Sums.{count_by-le-length, get_or-le-sum_by, prefix_len-le-length}
use Rattle.us_expr.specs.declared.queries.Axis.{Axis}
use Rattle.us_expr.specs.declared.queries.Query.{Query as QueryCode}
use Rattle.us_expr.specs.Tree.{Tree}
use Rattle.us_expr.specs.Value.{IsIndex}
use Rattle.us_format.specs.Lists.{among, nth}
use Rattle.us_format.specs.Matrix.{Entry, Shape, earlier, index_at, indices}
use Rattle.us_format.specs.Declaration.{Query, SumOf, Enumerate, Reorder, Schedule, axis_of, query_of}
use Rattle.us_format.specs.Queries.{empty_lanes, enumerate_at, lane_at, lanes_of, plain_value, rank_of, slot_at, sum_at, variable_at, weight}
use Rattle.us_format.proofs.Lanes.{empty-length, lanes-length, turns-total}
use Rattle.us_variables.specs.Counted.{IsCountable}

small : (n : ℕ) → n ≤ 67108864 → IsIndex (pos n)
small n h = (omega (arith, ints, h), omega (arith, ints, h))

none-total : (n : ℕ) → sum_by length (empty_lanes n) ≡ 0
none-total zero = refl
none-total (suc n) = none-total n

-- no lane has more indices than there are
lane-short : (m : List Entry) (s : Shape) (axis : Axis) (n l : ℕ) → 0 < n → length (nth (lanes_of m s axis n) l) ≤ indices axis s
lane-short m s axis n l h = go (cases_lt l (length (lanes_of m s axis n)))
  where
    total : sum_by length (lanes_of m s axis n) ≡ indices axis s
    total =
        turns-total m axis (range_with_len 0 (indices axis s)) (empty_lanes n) (omega (arith, h, empty-length m axis n))
        ∙ omega (arith, length-range_with_len 0 (indices axis s), none-total n)

    beyond : (xs : List (List ℕ)) (k : ℕ) → length xs ≤ k → nth xs k ≡ []
    beyond [] k b = refl
    beyond (x ∷ xs) zero b = absurd (omega (arith, b))
    beyond (x ∷ xs) (suc k) b = beyond xs k (omega (arith, b))

    go : ((l < length (lanes_of m s axis n)) ⊎ (length (lanes_of m s axis n) ≤ l)) → length (nth (lanes_of m s axis n) l) ≤ indices axis s
    go (inl b) = omega (arith, get_or-le-sum_by length (lanes_of m s axis n) l [] b, total)
    go (inr b) = subst (λ (xs : List ℕ). length xs ≤ indices axis s) (sym (beyond (lanes_of m s axis n) l b)) (omega arith)

-- ---- how large the numbers are

sum-few : (m : List Entry) (e : Tree) (x : Entry) → sum_at m e x ≤ length m
sum-few m e x = count_by-le-length (λ (y : Entry). int_eq (plain_value e y) (plain_value e x)) m

enumerate-few : (m : List Entry) (e : Tree) (x : Entry) → enumerate_at m e x ≤ length m
enumerate-few m e x = count_by-le-length (λ (y : Entry). earlier y x && int_eq (plain_value e y) (plain_value e x)) m

rank-few : (m : List Entry) (s : Shape) (axis : Axis) (a : ℕ) → rank_of m s axis a ≤ indices axis s
rank-few m s axis a =
    omega (
      arith,
      count_by-le-length (λ (b : ℕ). ltb (weight m axis a) (weight m axis b) || (eqb (weight m axis a) (weight m axis b) && ltb b a)) (range_with_len 0 (indices axis s)),
      length-range_with_len 0 (indices axis s),
    )

lane-few : (m : List Entry) (s : Shape) (axis : Axis) (n a : ℕ) → lane_at m s axis n a ≤ n
lane-few m s axis n a = omega (arith, prefix_len-le-length (λ (lane : List ℕ). not (among a lane)) (lanes_of m s axis n), lanes-length m axis s n)

slot-few : (m : List Entry) (s : Shape) (axis : Axis) (n a : ℕ) → 0 < n → slot_at m s axis n a ≤ indices axis s
slot-few m s axis n a h =
    omega (arith, prefix_len-le-length (λ (b : ℕ). not (eqb a b)) (nth (lanes_of m s axis n) (lane_at m s axis n a)), lane-short m s axis n (lane_at m s axis n a) h)

module _ (m : List Entry) (s : Shape) (few : length m ≤ 67108864) (v : ℕ) (x : Entry) where
  chosen : (b : Bool) (a c : ℤ) → IsIndex a → IsIndex c → IsIndex (cond b a c)
  chosen true a c p q = p
  chosen false a c p q = q

  step : (q : Query) (qs : List Query) → IsCountable s q → IsIndex (variable_at m s qs v x) → IsIndex (variable_at m s (q ∷ qs) v x)
  step (SumOf w e) qs h r = chosen (eqb w v) (pos (sum_at m e x)) (variable_at m s qs v x) (small (sum_at m e x) (omega (arith, few, sum-few m e x))) r
  step (Enumerate w e) qs h r = chosen (eqb w v) (pos (enumerate_at m e x)) (variable_at m s qs v x) (small (enumerate_at m e x) (omega (arith, few, enumerate-few m e x))) r
  step (Reorder w t) qs h r =
      let a : ℕ = index_at (axis_of t) x in
      chosen (eqb w v) (pos (rank_of m s (axis_of t) a)) (variable_at m s qs v x) (small (rank_of m s (axis_of t) a) (omega (arith, h, rank-few m s (axis_of t) a))) r
  step (Schedule l u t n) qs h r =
      let a : ℕ = index_at (axis_of t) x in
      chosen (eqb l v) (pos (lane_at m s (axis_of t) n a)) (cond (eqb u v) (pos (slot_at m s (axis_of t) n a)) (variable_at m s qs v x))
      (small (lane_at m s (axis_of t) n a) (omega (arith, h.2, lane-few m s (axis_of t) n a)))
      (chosen (eqb u v) (pos (slot_at m s (axis_of t) n a)) (variable_at m s qs v x) (small (slot_at m s (axis_of t) n a) (omega (arith, h.0, slot-few m s (axis_of t) n a h.1))) r)

  pub is-index : (queries : List QueryCode) → All (λ q. IsCountable s (query_of q)) queries → IsIndex (variable_at m s (map query_of queries) v x)
  is-index [] h = small 0 (omega arith)
  is-index (q ∷ queries) h = step (query_of q) (map query_of queries) (h 0 q (omega arith)) (is-index queries (λ k d l. h (suc k) d (omega (arith, l))))
