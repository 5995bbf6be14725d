-- What a part with few entries holds is small.
use Rattle.std.proofs.Common.{◌≡◌, ℕ, zero, suc, ◌*◌, ◌^◌, ◌<◌, ◌≤◌, List, [], ◌∷◌, map, length, true, ◌&&◌, subst, arith, mul-le-mul_right}
use Rattle.std.specs.Prelude.{nat_le}
use Rattle.std.specs.List.{All}
use Rattle.std.proofs.lemmas.Bool.{and_parts}
use Rattle.std.proofs.lemmas.Bool.Decides.{nat_tests}
use Rattle.std.proofs.lemmas.List.Elements.{All-head, All-tail}
use Rattle.us_expr.specs.declared.queries.Axis.{Axis}
use Rattle.us_expr.specs.declared.queries.Axis.TheVariants.{Rows, Cols}
use Rattle.us_format.specs.Lists.{nth}
use Rattle.us_format.specs.Matrix.{Shape, Entry, indices}
use Rattle.us_format.specs.Declaration.{Query, SumOf, Enumerate, Reorder, Schedule, Part, axis_of}
use Rattle.us_format.specs.Queries.{extent_of, extents_of, schedule_extent}
use Rattle.us_format.specs.Packs.{written}
use Rattle.us_format.specs.Buffers.{table_buffer}
use Rattle.us_format.specs.Reading.{limit}
use Rattle.us_format.proofs.Climb.{length-written}
use Rattle.us_format.proofs.Members.{all-Mem, Mem-all}
use Rattle.us_format.proofs.Order.{Mem-of_map}
use Rattle.us_invert.specs.Plan.{AreSmall}
use Rattle.us_build.proofs.Extents.{enumerate-few, schedule-few}
use Rattle.us_judge.specs.Acceptance.{has_lawful_lanes}
use Rattle.us_judge.proofs.VariableRanges.{ranges-near}
use Rattle.us_gen_walk.specs.Plans.{HasSmallParts}

fitting : (n : ℕ) → (nat_le 1 n && nat_le n 64) ≡ true → (1 ≤ n) × (n ≤ 64)
fitting n h = (low n (and_parts (nat_le 1 n) (nat_le n 64) h).0, high n (and_parts (nat_le 1 n) (nat_le n 64) h).1)
  where
    low : (n : ℕ) → nat_le 1 n ≡ true → 1 ≤ n
    low n e = grind (arith, nat_tests)

    high : (n : ℕ) → nat_le n 64 ≡ true → n ≤ 64
    high n e = grind (arith, nat_tests)

module _ (s : Shape) (p : Part) (m : List Entry) (rows : s.rows < 2 ^ 31) (cols : s.cols < 2 ^ 31) (few : length m ≤ limit) (lanes : All (λ q. has_lawful_lanes q ≡ true) p.queries) where
  axis_small : (a : Axis) → indices a s ≤ 2 ^ 31
  axis_small Rows = omega (arith, rows)
  axis_small Cols = omega (arith, cols)

  extent_small : (q : Query) → has_lawful_lanes q ≡ true → extent_of m s q ≤ 2 ^ 31
  extent_small (SumOf v e) h = omega arith
  extent_small (Enumerate v e) h = omega (arith, enumerate-few m e, few)
  extent_small (Reorder v t) h = omega arith
  extent_small (Schedule l u t n) h = omega (arith, schedule-few m s (axis_of t) n (omega (arith, (fitting n h).0)), axis_small (axis_of t))

  table_small : (q : Query) → has_lawful_lanes q ≡ true → length (written (table_buffer m s q)) < 2 ^ 63
  table_small (SumOf v e) h = omega arith
  table_small (Enumerate v e) h = omega arith
  table_small (Reorder v t) h = omega (arith, length-written (table_buffer m s (Reorder v t)), axis_small (axis_of t))
  table_small (Schedule l u t n) h =
      let long : length (written (table_buffer m s (Schedule l u t n))) ≡ n * schedule_extent m s (axis_of t) n = length-written (table_buffer m s (Schedule l u t n)) in
      let most : n * schedule_extent m s (axis_of t) n ≤ 64 * schedule_extent m s (axis_of t) n = mul-le-mul_right (schedule_extent m s (axis_of t) n) (fitting n h).1 in
      let slots : schedule_extent m s (axis_of t) n ≤ 2 ^ 31 = extent_small (Schedule l u t n) h in
      omega (arith, long, most, slots)

  tables_small : (qs : List Query) → All (λ q. has_lawful_lanes q ≡ true) qs → (k : ℕ) → length (nth (map (λ q. written (table_buffer m s q)) qs) k) < 2 ^ 63
  tables_small [] h zero = omega arith
  tables_small [] h (suc k) = omega arith
  tables_small (q ∷ qs) h zero = table_small q (All-head (λ q. has_lawful_lanes q ≡ true) q qs h)
  tables_small (q ∷ qs) h (suc k) = tables_small qs (All-tail (λ q. has_lawful_lanes q ≡ true) q qs h) k

  extents_small : All (λ n. n ≤ 2 ^ 31) (extents_of m s p)
  extents_small =
      Mem-all (λ (n : ℕ). n ≤ 2 ^ 31) (extents_of m s p)
      (λ n i. let q = Mem-of_map (extent_of m s) n p.queries i in subst (λ (z : ℕ). z ≤ 2 ^ 31) q.2 (extent_small q.0 (all-Mem (λ (x : Query). has_lawful_lanes x ≡ true) p.queries q.0 lanes q.1)))

  pub small-parts : AreSmall p.levels p.queries → HasSmallParts s p m
  small-parts small = record {
    expressions = small;
    rows = rows;
    cols = cols;
    low = λ v h. (ranges-near s rows cols p (extents_of m s p) extents_small lanes v h).0;
    high = λ v h. (ranges-near s rows cols p (extents_of m s p) extents_small lanes v h).1;
    tables = tables_small p.queries lanes;
  }
