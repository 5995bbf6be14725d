-- The numbers of the places of a part fit a text.
use Rattle.std.specs.Prelude.{slice_get, replicate}
use Rattle.std.proofs.Common.{◌≡◌, ℕ, zero, suc, ◌+◌, ◌*◌, ◌^◌, ◌<◌, ◌≤◌, List, [], ◌∷◌, ◌++◌, length, Bool, true, false, cond, not, Option, Some, None, refl, sym, ap, subst, inl, inr, arith, All, ℤ, pos, negsuc, ◌+ℤ◌, ◌-ℤ◌, ◌≤ℤ◌}
use Rattle.std.specs.List.{position_or_len}
use Rattle.std.proofs.lemmas.Int.{ints}
use Rattle.std.proofs.lemmas.List.FromFn.{length-map-range_with_len}
use Rattle.std.proofs.lemmas.List.Sums.{length-filter, count_by-le-length}
use Rattle.us_expr.specs.declared.ranges.Range.{Range}
use Rattle.us_expr.specs.Tree.{Tree, RowIndex, ColIndex, Number, Variable, Sum, Difference, Quotient, Remainder, node_count}
use Rattle.us_expr.specs.Value.{IsWithin}
use Rattle.us_expr.specs.Range.{IsNear}
use Rattle.us_expr.proofs.Bounds.{near_more, range_near}
use Rattle.us_format.specs.declared.Kind.{Kind}
use Rattle.us_format.specs.declared.Kind.TheVariants as kinds
use Rattle.us_format.specs.Lists.{nth, nat_of}
use Rattle.us_format.specs.Matrix.{Shape}
use Rattle.us_format.specs.Declaration.{Query, Column, LevelColumn, ValueColumn, Part, same_column, has_extent, has_table}
use Rattle.us_format.specs.Coordinates.{variable_range, variable_ranges, span}
use Rattle.us_format.specs.Kinds.{kind}
use Rattle.us_format.specs.Packs.{Piece, PosOf, CellsOf, in_pack, pieces, pieces_from, level_pieces, own_pieces, is_packed, same_piece}
use Rattle.us_format.specs.Reading.{own_place, pack_place, pack_of, buffer_count, extent_count}
use Rattle.us_format.proofs.Members.{Mem-right, all-Mem}
use Rattle.us_format.proofs.Order.{Mem, Mem-filter}
use Rattle.us_format.proofs.Pieces.{found-at, same_piece-true, same_piece-self}
use Rattle.us_format.proofs.Queries.{found-first}
use Rattle.us_judge.specs.Acceptance.{has_lawful_lanes}
use Rattle.us_judge.specs.Plans.{IsPlannable}
use Rattle.us_judge.specs.Short.{IsShort}
use Rattle.us_judge.proofs.VariableRanges.{ranges-near}
use Rattle.us_code.specs.declared.program.Dim.{Dim}
use Rattle.us_code.specs.declared.program.Dim.TheVariants as dim
use Rattle.us_code.specs.Limits.{FitsDim}
use Rattle.us_gen_walk.specs.declared.places.Column.TheVariants as cells
use Rattle.us_gen_walk.specs.declared.places.Loop.{Loop}
use Rattle.us_gen_walk.specs.declared.places.Loop.TheVariants as over
use Rattle.us_gen_walk.specs.declared.places.Slot.{Slot}
use Rattle.us_gen_places.specs.declared.start.PartStart.{PartStart}
use Rattle.us_gen_places.specs.Places.{extent_name, nodes_name, place_of, nodes_of, counting_query, counted_by, range_without, size_by, loop_of, level_place, with_loop, with_slot, loops_from, slots_from, tables_from}
use Rattle.us_gen_places.specs.Holds.{IsOrderly}
use Rattle.us_gen_places.proofs.SizesHold.{counted}
use Rattle.us_gen_parts.proofs.PartThere.{none-few}
use Rattle.us_gen_opening.specs.declared.parts.Extent.{Extent}
use Rattle.us_gen_opening.specs.Opening.{with_extent, extents_from}
use Rattle.us_listing_limits.specs.Fitting.{FitsLow, FitsColumn, FitsLoop, FitLoops, FitSlots, FitTables, FitExtents}

-- ---- small numbers

low_fits : (z : ℤ) → IsNear (2 ^ 37) z → FitsLow z
low_fits (pos k) h = omega (arith, ints, h.high)
low_fits (negsuc k) h = omega (arith, ints, h.low)

nat_small : (z : ℤ) (n : ℕ) → z ≤ℤ pos n → nat_of z ≤ n
nat_small (pos k) n h = omega (arith, ints, h)
nat_small (negsuc k) n h = omega arith

span_fits : (r : Range) → IsNear (2 ^ 37) r.lo → IsNear (2 ^ 37) r.hi → span r < 2 ^ 63
span_fits r l h =
    let few : span r ≤ 2 ^ 39 = nat_small ((r.hi +ℤ pos 1) -ℤ r.lo) (2 ^ 39) (omega (arith, ints, l.low, h.high)) in
    omega (arith, few)

some_below : {A : Type 0} (xs : List A) (k : ℕ) (x : A) → slice_get xs k ≡ Some x → k < length xs
some_below [] k x h = absurd cc
some_below (y ∷ ys) zero x h = omega arith
some_below (y ∷ ys) (suc k) x h = omega (arith, some_below ys k x h)

-- what is known of each part of an accepted declaration
pub record IsTame (p : Part) : Type 0 where
  pub orderly : IsOrderly p
  pub plannable : IsPlannable p
  pub short : IsShort p
  pub lanes : All (λ q. has_lawful_lanes q ≡ true) p.queries
  pub narrow : All (λ (cs : List Column). length cs ≤ 16) p.packs

-- where a part begins, so that its numbers fit
pub record HasRoom (a : PartStart) : Type 0 where
  pub source : a.source < 2 ^ 31
  pub dim : a.dim < 2 ^ 31

-- names of dims below a number
abbrev pub IsBelow : ℕ → Dim → Type 0
IsBelow high (dim.Number n) = Unit {0}
IsBelow high (dim.Name d) = d < high
IsBelow high (dim.Len k) = Unit {0}

abbrev pub NodesBelow : ℕ → List Loop → Type 0
NodesBelow high [] = Unit {0}
NodesBelow high (over.Full size low ∷ ls) = NodesBelow high ls
NodesBelow high (over.Nodes k more nodes crd low ∷ ls) = IsBelow high more × IsBelow high nodes × NodesBelow high ls

abbrev pub DimsBelow : ℕ → List Extent → Type 0
DimsBelow high [] = Unit {0}
DimsBelow high (e ∷ es) = (e.dim < high) × DimsBelow high es

module _ (a : PartStart) (p : Part) (tame : IsTame p) (room : HasRoom a) where
  -- ---- sources

  pieces_few : (k : ℕ) (es : List Tree) → length (pieces_from p k es) ≤ 1 + 2 * length es
  pieces_few k [] = omega arith
  pieces_few k (e ∷ es) = go (kind p k) (pieces_few (suc k) es)
    where
      go : (kd : Kind) → length (pieces_from p (suc k) es) ≤ 1 + 2 * length es → length (level_pieces k kd ++ pieces_from p (suc k) es) ≤ 1 + 2 * suc (length es)
      go kinds.Full ih = omega (arith, ih)
      go kinds.Compressed ih = omega (arith, ih)
      go kinds.Listed ih = omega (arith, ih)
      go kinds.Slot ih = omega (arith, ih)

  pub buffers_few : buffer_count p ≤ 81
  buffers_few =
      omega (
        arith,
        count_by-le-length has_extent p.queries,
        count_by-le-length has_table p.queries,
        length-filter (λ (x : Piece). not (is_packed p x)) (pieces p),
        count_by-le-length (λ (x : Piece). not (is_packed p x)) (pieces p),
        pieces_few 0 p.levels,
        tame.short.queries,
        tame.short.levels,
        tame.short.packs,
      )

  own_below : (x : Piece) → Mem x (pieces p) → is_packed p x ≡ false → own_place p x < 81
  own_below x mem h =
      let f = found-at same_piece same_piece-true same_piece-self x (own_pieces p) x (Mem-filter (λ y. not (is_packed p y)) x (pieces p) mem (ap not h)) in
      omega (arith, f.0, buffers_few)

  pub column_fits : (c : Column) → Mem (CellsOf c) (pieces p) → FitsColumn (place_of a p c)
  column_fits c mem = go (is_packed p (CellsOf c)) refl
    where
      go : (b : Bool) → is_packed p (CellsOf c) ≡ b
          → FitsColumn (cond b (cells.Packed (a.source + pack_place p (pack_of p c)) (length (nth p.packs (pack_of p c))) (position_or_len (same_column c) (nth p.packs (pack_of p c)))) (cells.Own (a.source + own_place p (CellsOf c))))
      go true h =
          let f = found-first (in_pack c) p.packs [] h in
          let g = found-first (same_column c) (nth p.packs (pack_of p c)) c f.1 in
          let few : length (nth p.packs (pack_of p c)) ≤ 16 = tame.narrow (pack_of p c) [] f.0 in
          (omega (arith, f.0, buffers_few, room.source), omega (arith, g.0), omega (arith, few), omega (arith, few, g.0))
      go false h = omega (arith, own_below (CellsOf c) mem h, room.source)

  -- ---- dims

  nodes_fit : (k : ℕ) → k < 6 → Mem (CellsOf (LevelColumn k)) (pieces p) → FitsDim (nodes_of a p k) × IsBelow (a.dim + 28) (nodes_of a p k)
  nodes_fit k l mem = go (is_packed p (CellsOf (LevelColumn k))) refl
    where
      go : (b : Bool) → is_packed p (CellsOf (LevelColumn k)) ≡ b
          → FitsDim (cond b (dim.Name (nodes_name a k)) (dim.Len (a.source + own_place p (CellsOf (LevelColumn k))))) × IsBelow (a.dim + 28) (cond b (dim.Name (nodes_name a k)) (dim.Len (a.source + own_place p (CellsOf (LevelColumn k)))))
      go true q = (omega (arith, room.dim, l), omega (arith, l))
      go false q = (omega (arith, own_below (CellsOf (LevelColumn k)) mem q, room.source), tt)

  size_fits : (e : Tree) (r : Range) → IsNear (2 ^ 37) r.lo → IsNear (2 ^ 37) r.hi → FitsDim (size_by a (counted_by p.queries e) r)
  size_fits e r l h = by_tree e
    where
      by_query : (v : ℕ) (o : Option ℕ) → counting_query 0 p.queries v ≡ o → FitsDim (size_by a o r)
      by_query v None q = span_fits r l h
      by_query v (Some q) e =
          let c = counted (record { rows = 0; cols = 0 }) [] p.queries 0 v q e in
          omega (arith, c.is, some_below p.queries c.place c.query c.there, tame.short.queries, room.dim)

      by_tree : (e : Tree) → FitsDim (size_by a (counted_by p.queries e) r)
      by_tree (Variable v) = by_query v (counting_query 0 p.queries v) refl
      by_tree RowIndex = span_fits r l h
      by_tree ColIndex = span_fits r l h
      by_tree (Number c) = span_fits r l h
      by_tree (Sum x y) = span_fits r l h
      by_tree (Difference x y) = span_fits r l h
      by_tree (Quotient x k) = span_fits r l h
      by_tree (Remainder x k) = span_fits r l h

  -- ---- levels

  nodes_level : (k : ℕ) (r : Range) → k < 6 → IsNear (2 ^ 37) r.lo → Mem (PosOf k) (pieces p) → Mem (CellsOf (LevelColumn k)) (pieces p) → FitsLoop (loop_of a p k r)
  nodes_level k r l near i j = (
    omega (arith, own_below (PosOf k) i refl, room.source),
    omega (arith, room.dim, l),
    (nodes_fit k l j).0,
    column_fits (LevelColumn k) j,
    low_fits r.lo near,
  )

  -- loops and slot levels that fit, as many as there are levels
  record Levels (ls : List Loop) (xs : List Slot) (n : ℕ) : Type 0 where
    loops : FitLoops ls
    slots : FitSlots xs
    below : NodesBelow (a.dim + 28) ls
    number : length ls + length xs ≡ n

  levels_fit : (s : Shape) (k : ℕ) (es : List Tree) → k + length es ≡ length p.levels → ((x : Piece) → Mem x (pieces_from p k es) → Mem x (pieces p))
      → ((e : Tree) → Mem e es → (IsNear (2 ^ 37) (range_without s p e).lo) × (IsNear (2 ^ 37) (range_without s p e).hi))
      → Levels (loops_from a s p k es) (slots_from a s p k es) (length es)
  levels_fit s k [] n mem near = record { loops = tt; slots = tt; below = tt; number = refl }
  levels_fit s k (e ∷ es) n mem near = go (kind p k) refl mem (λ m. levels_fit s (suc k) es (omega (arith, n)) m (λ x i. near x (inr i)))
    where
      few : k < 6
      few = omega (arith, n, tame.plannable.few)

      lo : IsNear (2 ^ 37) (range_without s p e).lo
      lo = (near e (inl refl)).0

      hi : IsNear (2 ^ 37) (range_without s p e).hi
      hi = (near e (inl refl)).1

      nodes : Mem (PosOf k) (pieces p) → Mem (CellsOf (LevelColumn k)) (pieces p) → Levels (loops_from a s p (suc k) es) (slots_from a s p (suc k) es) (length es)
          → Levels (loop_of a p k (range_without s p e) ∷ loops_from a s p (suc k) es) (slots_from a s p (suc k) es) (suc (length es))
      nodes i j r = record {
        loops = (nodes_level k (range_without s p e) few lo i j, r.loops);
        slots = r.slots;
        below = (omega (arith, few), (nodes_fit k few j).1, r.below);
        number = omega (arith, r.number);
      }

      go : (kd : Kind) → kind p k ≡ kd → ((x : Piece) → Mem x (level_pieces k kd ++ pieces_from p (suc k) es) → Mem x (pieces p))
          → (((x : Piece) → Mem x (pieces_from p (suc k) es) → Mem x (pieces p)) → Levels (loops_from a s p (suc k) es) (slots_from a s p (suc k) es) (length es))
          → Levels (with_loop (level_place a s p k e kd) (loops_from a s p (suc k) es)) (with_slot (level_place a s p k e kd) (slots_from a s p (suc k) es)) (suc (length es))
      go kinds.Full q mem ih =
          let r = ih mem in
          record { loops = ((size_fits e (range_without s p e) lo hi, low_fits (range_without s p e).lo lo), r.loops); slots = r.slots; below = r.below; number = omega (arith, r.number) }
      go kinds.Compressed q mem ih = nodes (mem (PosOf k) (inl refl)) (mem (CellsOf (LevelColumn k)) (inr (inl refl))) (ih (λ x i. mem x (inr (inr i))))
      go kinds.Listed q mem ih = nodes (mem (PosOf k) (inl refl)) (mem (CellsOf (LevelColumn k)) (inr (inl refl))) (ih (λ x i. mem x (inr (inr i))))
      go kinds.Slot q mem ih =
          let r = ih (λ x i. mem x (inr i)) in
          record { loops = r.loops; slots = (column_fits (LevelColumn k) (mem (CellsOf (LevelColumn k)) (inl refl)), low_fits (range_without s p e).lo lo, r.slots); below = r.below; number = omega (arith, r.number) }

  value_there : (k : ℕ) (es : List Tree) → Mem (CellsOf ValueColumn) (pieces_from p k es)
  value_there k [] = inl refl
  value_there k (e ∷ es) = Mem-right (CellsOf ValueColumn) (level_pieces k (kind p k)) (pieces_from p (suc k) es) (value_there (suc k) es)

  pub values_fit : FitsColumn (place_of a p ValueColumn)
  values_fit = column_fits ValueColumn (value_there 0 p.levels)

  -- the ranges of the levels
  range_is_near : (s : Shape) → s.rows < 2 ^ 31 → s.cols < 2 ^ 31 → (e : Tree) → Mem e p.levels → (IsNear (2 ^ 37) (range_without s p e).lo) × (IsNear (2 ^ 37) (range_without s p e).hi)
  range_is_near s rows cols e mem =
      let many : length (variable_ranges s (replicate 16 0) p) ≡ p.names = length-map-range_with_len (variable_range s (replicate 16 0) p.queries) 0 p.names in
      let small : node_count e ≤ 32 = all-Mem (λ (t : Tree). node_count t ≤ 32) p.levels e tame.plannable.small.levels_are mem in
      let within : IsWithin (length (variable_ranges s (replicate 16 0) p)) e = subst (λ n. IsWithin n e) (sym many) (all-Mem (IsWithin p.names) p.levels e tame.orderly.lawful.levels_valid mem) in
      let near = range_near s.rows s.cols (variable_ranges s (replicate 16 0) p) e rows cols (λ v b. ranges-near s rows cols p (replicate 16 0) none-few tame.lanes v (subst (λ n. v < n) many b)) within in
      (near_more (node_count e * 2 ^ 31) (2 ^ 37) _ (omega (arith, small)) near.0, near_more (node_count e * 2 ^ 31) (2 ^ 37) _ (omega (arith, small)) near.1)

  pub record LevelsFit (s : Shape) : Type 0 where
    pub loops : FitLoops (loops_from a s p 0 p.levels)
    pub slots : FitSlots (slots_from a s p 0 p.levels)
    pub below : NodesBelow (a.dim + 28) (loops_from a s p 0 p.levels)
    pub few : length (loops_from a s p 0 p.levels) + length (slots_from a s p 0 p.levels) ≤ 6

  pub all_levels : (s : Shape) → s.rows < 2 ^ 31 → s.cols < 2 ^ 31 → LevelsFit s
  all_levels s rows cols =
      let all = levels_fit s 0 p.levels (omega arith) (λ x i. i) (range_is_near s rows cols) in
      record { loops = all.loops; slots = all.slots; below = all.below; few = omega (arith, all.number, tame.plannable.few) }

  -- ---- tables and extents

  tables_from_fit : (t q : ℕ) (qs : List Query) → t + length qs ≤ 32 → q + length qs ≤ 16 → FitTables (tables_from a t q qs)
  tables_from_fit t q [] n m = tt
  tables_from_fit t q (x ∷ qs) n m = (
    source (has_table x),
    extent (has_extent x),
    tables_from_fit (cond (has_table x) (suc t) t) (suc q) qs (fewer (has_table x)) (omega (arith, m)),
  )
    where
      source : (b : Bool) → cond b (a.source + t) a.source < 2 ^ 32
      source true = omega (arith, n, room.source)
      source false = omega (arith, room.source)

      extent : (b : Bool) → FitsDim (cond b (dim.Name (extent_name a q)) (dim.Number 0))
      extent true = omega (arith, m, room.dim)
      extent false = omega arith

      fewer : (b : Bool) → cond b (suc t) t + length qs ≤ 32
      fewer true = omega (arith, n)
      fewer false = omega (arith, n)

  pub tables_fit : FitTables (tables_from a (extent_count p) 0 p.queries)
  tables_fit = tables_from_fit (extent_count p) 0 p.queries (omega (arith, count_by-le-length has_extent p.queries, tame.short.queries)) (omega (arith, tame.short.queries))

  -- extents that fit, of dims below a number
  pub record Extents (es : List Extent) (n : ℕ) : Type 0 where
    pub fit : FitExtents es
    pub below : DimsBelow (a.dim + 28) es
    pub few : length es ≤ n

  extents_from_fit : (k t q : ℕ) (qs : List Query) → k + length qs ≤ a.source + 16 → q + length qs ≤ 16 → Extents (extents_from k (tables_from a t q qs)) (length qs)
  extents_from_fit k t q [] n m = record { fit = tt; below = tt; few = omega arith }
  extents_from_fit k t q (x ∷ qs) n m =
      go (has_extent x) (extents_from_fit k (cond (has_table x) (suc t) t) (suc q) qs (omega (arith, n)) (omega (arith, m))) (extents_from_fit (k + 1) (cond (has_table x) (suc t) t) (suc q) qs (omega (arith, n)) (omega (arith, m)))
    where
      go : (b : Bool) → Extents (extents_from k (tables_from a (cond (has_table x) (suc t) t) (suc q) qs)) (length qs) → Extents (extents_from (k + 1) (tables_from a (cond (has_table x) (suc t) t) (suc q) qs)) (length qs) → Extents (with_extent k (cond b (dim.Name (extent_name a q)) (dim.Number 0)) (λ j. extents_from j (tables_from a (cond (has_table x) (suc t) t) (suc q) qs))) (suc (length qs))
      go true r r1 = record {
        fit = (omega (arith, n, room.source), omega (arith, m, room.dim), r1.fit);
        below = (omega (arith, m), r1.below);
        few = omega (arith, r1.few);
      }
      go false r r1 = record { fit = r.fit; below = r.below; few = omega (arith, r.few) }

  pub all_extents : Extents (extents_from a.source (tables_from a (extent_count p) 0 p.queries)) 16
  all_extents =
      let all = extents_from_fit a.source (extent_count p) 0 p.queries (omega (arith, tame.short.queries)) (omega (arith, tame.short.queries)) in
      record { fit = all.fit; below = all.below; few = omega (arith, all.few, tame.short.queries) }
