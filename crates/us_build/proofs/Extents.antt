-- How large the extents of queries are, and where the ranges of variables end.
use Rattle.std.specs.List.{fold, range_with_len, sum_by}
use Rattle.std.proofs.Common.{◌≡◌, ℕ, zero, suc, ◌^◌, ◌<◌, ◌≤◌, List, [], ◌∷◌, map, length, max, Bool, true, false, cond, sym, refl, ap, ◌∙◌, subst, inl, inr, arith, All, eqb}
use Rattle.std.proofs.lemmas.Int.{ints}
use Rattle.std.proofs.lemmas.List.FromFn.{length-range_with_len}
use Rattle.std.proofs.lemmas.List.Sums.{count_by-le-length, sum_by-cons}
use Rattle.us_expr.specs.Range.{IsNear, index_range}
use Rattle.us_expr.specs.Tree.{Tree}
use Rattle.us_expr.specs.declared.queries.Axis.{Axis}
use Rattle.us_expr.specs.declared.queries.Query.{Query as QueryCode}
use Rattle.us_expr.specs.declared.ranges.Range.{Range}
use Rattle.us_format.specs.Coordinates.{variable_range}
use Rattle.us_format.specs.Declaration.{Enumerate, Query, Reorder, Schedule, SumOf, axis_of, query_of}
use Rattle.us_format.specs.Matrix.{Entry, Shape, indices}
use Rattle.us_format.specs.Queries.{empty_lanes, enumerate_extent, extent_of, lanes_of, schedule_extent, sum_at}
use Rattle.us_format.specs.Reading.{limit}
use Rattle.us_format.proofs.Lanes.{empty-length, turns-total}
use Rattle.us_format.proofs.Members.{all-Mem}
use Rattle.us_format.proofs.Order.{Mem, Mem-of_map}
use Rattle.us_variables.specs.Counted.{IsCountable}

-- ---- extents

pub fold-most : (most a : ℕ) (xs : List ℕ) → a ≤ most → ((x : ℕ) → Mem x xs → x ≤ most) → fold max a xs ≤ most
fold-most most a [] h each = h
fold-most most a (x ∷ xs) h each = fold-most most (max a x) xs (omega (arith, h, each x (inl refl))) (λ y k. each y (inr k))

pub enumerate-few : (m : List Entry) (e : Tree) → enumerate_extent m e ≤ length m
enumerate-few m e =
    fold-most (length m) 0 (map (sum_at m e) m) (omega arith)
    (λ n k. let x = Mem-of_map (sum_at m e) n m k in subst (λ (z : ℕ). z ≤ length m) x.2 (count_by-le-length _ m))

pub empty-total : (n : ℕ) → sum_by length (empty_lanes n) ≡ 0
empty-total zero = refl
empty-total (suc n) = omega (arith, sum_by-cons length [] (empty_lanes n), empty-total n)

pub one-below : (lanes : List (List ℕ)) (l : List ℕ) → Mem l lanes → length l ≤ sum_by length lanes
one-below [] l h = absurd h
one-below (lane ∷ lanes) l (inl e) = omega (arith, sum_by-cons length lane lanes, ap length e)
one-below (lane ∷ lanes) l (inr k) = omega (arith, sum_by-cons length lane lanes, one-below lanes l k)

pub schedule-few : (m : List Entry) (s : Shape) (axis : Axis) (n : ℕ) → 0 < n → schedule_extent m s axis n ≤ indices axis s
schedule-few m s axis n h =
    fold-most (indices axis s) 0 (map length (lanes_of m s axis n)) (omega arith)
    (λ k at. let l = Mem-of_map length k (lanes_of m s axis n) at in omega (arith, l.2, one-below (lanes_of m s axis n) l.0 l.1, total))
  where
    total : sum_by length (lanes_of m s axis n) ≡ indices axis s
    total =
        turns-total m axis (range_with_len 0 (indices axis s)) (empty_lanes n) (subst (λ (k : ℕ). 0 < k) (sym (empty-length m axis n)) h)
        ∙ omega (arith, length-range_with_len 0 (indices axis s), empty-total n)

module _ (m : List Entry) (s : Shape) (few : length m ≤ limit) where
  pub extent-few : (q : Query) → IsCountable s q → extent_of m s q ≤ 67108864
  extent-few (SumOf v e) h = omega arith
  extent-few (Enumerate v e) h = omega (arith, enumerate-few m e, few)
  extent-few (Reorder v t) h = omega arith
  extent-few (Schedule l u t n) h = omega (arith, schedule-few m s (axis_of t) n h.1, h.0)

  -- ---- the ends of ranges

  abbrev pub HasNearEnds : Range → Type 0
  HasNearEnds r = (IsNear (2 ^ 31) r.lo) × (IsNear (2 ^ 31) r.hi)

  pub index-near : (n : ℕ) → n ≤ 2 ^ 31 → HasNearEnds (index_range n)
  index-near n h = (record { low = omega (arith, ints); high = omega (arith, ints) }, record { low = omega (arith, ints, h); high = omega (arith, ints, h) })

  pub variable-near : (qs : List Query) (v : ℕ) → ((q : Query) → Mem q qs → IsCountable s q) → HasNearEnds (variable_range s (map (extent_of m s) qs) qs v)
  variable-near [] v h = index-near 1 (omega arith)
  variable-near (SumOf w e ∷ qs) v h = variable-near qs v (λ q k. h q (inr k))
  variable-near (Enumerate w e ∷ qs) v h = go (eqb w v) (variable-near qs v (λ q k. h q (inr k)))
    where
      go : (b : Bool) → HasNearEnds (variable_range s (map (extent_of m s) qs) qs v) → HasNearEnds (cond b (index_range (enumerate_extent m e)) (variable_range s (map (extent_of m s) qs) qs v))
      go true ih = index-near (enumerate_extent m e) (omega (arith, extent-few (Enumerate w e) (h (Enumerate w e) (inl refl))))
      go false ih = ih
  variable-near (Reorder w t ∷ qs) v h = go (eqb w v) (variable-near qs v (λ q k. h q (inr k)))
    where
      go : (b : Bool) → HasNearEnds (variable_range s (map (extent_of m s) qs) qs v) → HasNearEnds (cond b (index_range (indices (axis_of t) s)) (variable_range s (map (extent_of m s) qs) qs v))
      go true ih = index-near (indices (axis_of t) s) (omega (arith, h (Reorder w t) (inl refl)))
      go false ih = ih
  variable-near (Schedule l u t n ∷ qs) v h = go (eqb l v) (eqb u v) (variable-near qs v (λ q k. h q (inr k)))
    where
      go : (b c : Bool) → HasNearEnds (variable_range s (map (extent_of m s) qs) qs v)
          → HasNearEnds (cond b (index_range n) (cond c (index_range (schedule_extent m s (axis_of t) n)) (variable_range s (map (extent_of m s) qs) qs v)))
      go true c ih = index-near n (omega (arith, (h (Schedule l u t n) (inl refl)).2))
      go false true ih = index-near (schedule_extent m s (axis_of t) n) (omega (arith, extent-few (Schedule l u t n) (h (Schedule l u t n) (inl refl))))
      go false false ih = ih

-- ---- the queries of the program

pub countable-each : (s : Shape) (qs : List QueryCode) → All (λ q. IsCountable s (query_of q)) qs → (q : Query) → Mem q (map query_of qs) → IsCountable s q
countable-each s qs all q h =
    let x = Mem-of_map query_of q qs h in
    subst (λ (z : Query). IsCountable s z) x.2 (all-Mem (λ y. IsCountable s (query_of y)) qs x.0 all x.1)
