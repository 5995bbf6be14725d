-- The extents of a part are within the limit.
use Rattle.std.proofs.Common.{ℕ, zero, suc, ◌*◌, ◌<◌, ◌≤◌, List, map, length, refl, subst, arith, filter, All}
use Rattle.us_format.specs.Matrix.{Shape, Entry}
use Rattle.us_format.specs.Declaration.{Query, SumOf, Enumerate, Reorder, Schedule, Part, axis_of, has_table}
use Rattle.us_format.specs.Queries.{extent_of, extents_of, schedule_extent}
use Rattle.us_format.specs.Packs.{Buffer}
use Rattle.us_format.specs.Buffers.{table_buffer}
use Rattle.us_format.specs.Reading.{limit}
use Rattle.us_format.specs.Rules.{HasLanes, IsLawful}
use Rattle.us_format.specs.Laws.{cells_of, unpacked_size}
use Rattle.us_format.proofs.Members.{all-Mem, Mem-all}
use Rattle.us_format.proofs.Order.{Mem, Mem-filter, Mem-map, Mem-of_map}
use Rattle.us_format_loops.proofs.Small.{part-of-sum}
use Rattle.us_build.proofs.Extents.{enumerate-few}

times_one : (n e : ℕ) → 0 < n → e ≤ n * e
times_one zero e h = absurd (omega (arith, h))
times_one (suc n) e h = omega arith

pub extents-few : (s : Shape) (p : Part) (m : List Entry) → IsLawful p → length m ≤ limit → unpacked_size s p m ≤ limit → All (λ n. n ≤ limit) (extents_of m s p)
extents-few s p m lawful few within =
    Mem-all (λ (n : ℕ). n ≤ limit) (extents_of m s p)
    (λ n i. let q = Mem-of_map (extent_of m s) n p.queries i in subst (λ (z : ℕ). z ≤ limit) q.2 (one q.0 q.1 (all-Mem HasLanes p.queries q.0 lawful.lanes q.1)))
  where
    one : (q : Query) → Mem q p.queries → HasLanes q → extent_of m s q ≤ limit
    one (SumOf v e) i h = omega arith
    one (Enumerate v e) i h = omega (arith, enumerate-few m e, few)
    one (Reorder v t) i h = omega arith
    one (Schedule l u t n) i h =
        let table : n * schedule_extent m s (axis_of t) n ≤ cells_of (map (table_buffer m s) (filter has_table p.queries)) =
        part-of-sum (λ (b : Buffer). b.len) (table_buffer m s (Schedule l u t n)) (map (table_buffer m s) (filter has_table p.queries))
        (Mem-map (table_buffer m s) (Schedule l u t n) (filter has_table p.queries) (Mem-filter has_table (Schedule l u t n) p.queries i refl)) in
        omega (arith, table, within, times_one n (schedule_extent m s (axis_of t) n) h)
