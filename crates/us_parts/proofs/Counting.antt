-- The cells of queries are those of their buffers.
use Rattle.std.specs.List.{filter, list_any}
use Rattle.std.proofs.Common.{◌≡◌, ℕ, ◌+◌, ◌<◌, ◌≤◌, ◌⊎◌, List, [], ◌∷◌, map, true, ltb, pos, refl, ap, subst, inl, inr, arith}
use Rattle.std.proofs.lemmas.Bool.{or_cases}
use Rattle.std.proofs.lemmas.Bool.Decides.{nat_tests}
use Rattle.std.proofs.lemmas.List.Sums.{sum_by-cons}
use Rattle.us_format.specs.Buffers.{extent_buffer, table_buffer}
use Rattle.us_format.specs.Declaration.{Enumerate, Query, Reorder, Schedule, SumOf, axis_of, has_extent, has_table}
use Rattle.us_format.specs.Laws.{cells_of}
use Rattle.us_format.specs.Matrix.{Entry, Shape, indices}
use Rattle.us_format.specs.Packs.{Buffer, written}
use Rattle.us_format.specs.Queries.{extent_of}
use Rattle.us_format.specs.Reading.{limit}
use Rattle.us_format.specs.Rules.{HasLanes}
use Rattle.us_format.proofs.Lanes.{lanes-hold}
use Rattle.us_format.proofs.Order.{Mem}
use Rattle.us_parts.specs.Cells.{extent_lists, has_long_axis, queries_cells, query_cells, table_lists}

above : (a b : ℕ) → ltb a b ≡ true → a < b
above a b h = grind (arith, nat_tests)

module _ (m : List Entry) (s : Shape) where
  pub cells-are : (qs : List Query) → queries_cells s qs (map (extent_of m s) qs) ≡ cells_of (map (extent_buffer m s) (filter has_extent qs)) + cells_of (map (table_buffer m s) (filter has_table qs))
  cells-are [] = refl
  cells-are (SumOf v e ∷ qs) = omega (arith, cells-are qs)
  cells-are (Enumerate v e ∷ qs) =
      omega (arith, cells-are qs, sum_by-cons (λ (b : Buffer). b.len) (extent_buffer m s (Enumerate v e)) (map (extent_buffer m s) (filter has_extent qs)))
  cells-are (Reorder v t ∷ qs) =
      omega (arith, cells-are qs, sum_by-cons (λ (b : Buffer). b.len) (table_buffer m s (Reorder v t)) (map (table_buffer m s) (filter has_table qs)))
  cells-are (Schedule l u t n ∷ qs) =
      omega (
        arith,
        cells-are qs,
        sum_by-cons (λ (b : Buffer). b.len) (extent_buffer m s (Schedule l u t n)) (map (extent_buffer m s) (filter has_extent qs)),
        sum_by-cons (λ (b : Buffer). b.len) (table_buffer m s (Schedule l u t n)) (map (table_buffer m s) (filter has_table qs)),
      )

  pub extents-are : (qs : List Query) → extent_lists qs (map (extent_of m s) qs) ≡ map written (map (extent_buffer m s) (filter has_extent qs))
  extents-are [] = refl
  extents-are (SumOf v e ∷ qs) = extents-are qs
  extents-are (Enumerate v e ∷ qs) = ap (λ ls. (pos (extent_of m s (Enumerate v e)) ∷ []) ∷ ls) (extents-are qs)
  extents-are (Reorder v t ∷ qs) = extents-are qs
  extents-are (Schedule l u t n ∷ qs) = ap (λ ls. (pos (extent_of m s (Schedule l u t n)) ∷ []) ∷ ls) (extents-are qs)

  pub tables-are : (qs : List Query) → table_lists qs (map (λ q. written (table_buffer m s q)) qs) ≡ map written (map (table_buffer m s) (filter has_table qs))
  tables-are [] = refl
  tables-are (SumOf v e ∷ qs) = tables-are qs
  tables-are (Enumerate v e ∷ qs) = tables-are qs
  tables-are (Reorder v t ∷ qs) = ap (λ ls. written (table_buffer m s (Reorder v t)) ∷ ls) (tables-are qs)
  tables-are (Schedule l u t n ∷ qs) = ap (λ ls. written (table_buffer m s (Schedule l u t n)) ∷ ls) (tables-are qs)

  -- a table alone is not longer than all cells
  pub table-within : (qs : List Query) (q : Query) → Mem q qs → (table_buffer m s q).len ≤ queries_cells s qs (map (extent_of m s) qs)
  table-within [] q h = absurd h
  table-within (x ∷ qs) q (inl e) = subst (λ (z : Query). (table_buffer m s z).len ≤ queries_cells s (x ∷ qs) (map (extent_of m s) (x ∷ qs))) e (here x)
    where
      here : (y : Query) → (table_buffer m s y).len ≤ query_cells s y (extent_of m s y) + queries_cells s qs (map (extent_of m s) qs)
      here (SumOf v a) = omega arith
      here (Enumerate v a) = omega arith
      here (Reorder v t) = omega arith
      here (Schedule l u t n) = omega arith
  table-within (x ∷ qs) q (inr k) = omega (arith, table-within qs q k)

  -- with a long axis they are above the limit
  pub long-above : (qs : List Query) → ((q : Query) → Mem q qs → HasLanes q) → list_any (has_long_axis s) qs ≡ true → limit < queries_cells s qs (map (extent_of m s) qs)
  long-above [] lanes h = absurd cc
  long-above (q ∷ qs) lanes h = go (long-above qs (λ x k. lanes x (inr k))) (or_cases (has_long_axis s q) (list_any (has_long_axis s) qs) h)
    where
      here : (y : Query) → HasLanes y → has_long_axis s y ≡ true → limit < query_cells s y (extent_of m s y)
      here (SumOf v a) l e = absurd cc
      here (Enumerate v a) l e = absurd cc
      here (Reorder v t) l e = above limit (indices (axis_of t) s) e
      here (Schedule v u t n) l e = omega (arith, above limit (indices (axis_of t) s) e, lanes-hold m (axis_of t) s n l)

      go : (list_any (has_long_axis s) qs ≡ true → limit < queries_cells s qs (map (extent_of m s) qs)) → ((has_long_axis s q ≡ true) ⊎ (list_any (has_long_axis s) qs ≡ true)) → limit < query_cells s q (extent_of m s q) + queries_cells s qs (map (extent_of m s) qs)
      go more (inl e) = omega (arith, here q (lanes q (inl refl)) e)
      go more (inr e) = omega (arith, more e)
