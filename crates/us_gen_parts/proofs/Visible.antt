-- All that the loops over the parts of a format read is visible.
use Rattle.std.specs.Prelude.{slice_get, None, IsTrue}
use Rattle.std.proofs.Common.{◌≡◌, ℕ, zero, suc, ◌+◌, ◌<◌, ◌≤◌, List, [], ◌∷◌, ◌++◌, length, Bool, true, false, cond, not, ◌&&◌, nat_lt, Option, Some, refl, sym, ap, subst, ◌∙◌, inl, inr, arith, filter, sum_by, eq-eqb, lt-ltb}
use Rattle.std.proofs.lemmas.List.Sums.{sum_by-cons, length-filter}
use Rattle.us_expr.specs.declared.ranges.Range.{Range}
use Rattle.us_expr.specs.Tree.{Tree, RowIndex, ColIndex, Number, Variable, Sum, Difference, Quotient, Remainder}
use Rattle.us_format.specs.declared.Kind.{Kind}
use Rattle.us_format.specs.declared.Kind.TheVariants as kinds
use Rattle.us_format.specs.Lists.{nth}
use Rattle.us_format.specs.Matrix.{Shape}
use Rattle.us_format.specs.Declaration.{Query, Column, LevelColumn, ValueColumn, Part, same_column, has_extent, has_table}
use Rattle.us_format.specs.Kinds.{kind}
use Rattle.std.specs.List.{position_or_len}
use Rattle.us_format.specs.Packs.{Piece, PosOf, CellsOf, in_pack, pieces, pieces_from, level_pieces, own_pieces, is_packed, same_piece}
use Rattle.us_format.specs.Reading.{own_place, pack_place, pack_of, buffer_count, extent_count}
use Rattle.us_format.proofs.Members.{Mem-right, all-Mem}
use Rattle.us_format.proofs.Order.{Mem, Mem-filter}
use Rattle.us_format.proofs.Pieces.{found-at, same_piece-true, same_piece-self}
use Rattle.us_format.proofs.Queries.{found-first}
use Rattle.us_format_loops.specs.Nodes.{has_nodes}
use Rattle.us_judge.specs.Views.{declaration_of}
use Rattle.us_code.specs.declared.program.Dim.{Dim}
use Rattle.us_code.specs.declared.program.Dim.TheVariants as dim
use Rattle.us_code.specs.declared.program.CellKind.TheVariants as below
use Rattle.us_code.specs.Typing.{Context, Form, is_some, same_dim, sees_dim, ends_form, spans}
use Rattle.us_gen_recover.specs.declared.places.Table.{Table}
use Rattle.us_gen_recover.specs.Recovery.{table}
use Rattle.us_gen_walk.specs.declared.places.Column.{Column as Place}
use Rattle.us_gen_walk.specs.declared.places.Column.TheVariants as cells
use Rattle.us_gen_walk.specs.declared.places.Loop.{Loop}
use Rattle.us_gen_walk.specs.declared.places.Places.{Places}
use Rattle.us_gen_walk.specs.declared.places.Slot.{Slot}
use Rattle.us_gen_walk.specs.Rooms.{SeesColumn, HasLength, SeesLoop, SeesLoops, SeesSlots, SeesPlaces}
use Rattle.us_gen_walk.specs.Walk.{coordinates}
use Rattle.us_gen_places.specs.declared.start.PartStart.{PartStart}
use Rattle.us_gen_places.specs.Places.{nodes_name, more_name, place_of, nodes_of, counting_query, counted_by, range_without, size_by, loop_of, level_place, with_loop, with_slot, loops_from, slots_from, tables_from, ArePlacesOf}
use Rattle.us_gen_places.specs.Holds.{IsOrderly}
use Rattle.us_gen_places.specs.Dims.{next_start, SeesDims, SeeDims}
use Rattle.us_gen_places.proofs.Covering.{places-cover}
use Rattle.us_gen_places.proofs.SizesHold.{counted}
use Rattle.us_gen_unpack.specs.declared.listing.PartWalk.{PartWalk}
use Rattle.us_gen_unpack.specs.Rooms.{SeesPart, SeesParts}
use Rattle.us_gen_parts.specs.Walks.{IsWalkOf, AreWalksOf, WalksAreSeen}
use Rattle.us_gen_parts.proofs.NamesThere.{names-there}
use Rattle.us_gen_parts.proofs.Orderly.{all-orderly}

same_self : (d : Dim) → same_dim d d ≡ true
same_self (dim.Number n) = eq-eqb n n refl
same_self (dim.Name n) = eq-eqb n n refl
same_self (dim.Len n) = eq-eqb n n refl

-- ---- one part

module _ (g : Context) (a : PartStart) (p : Part) (room : a.source + buffer_count p ≤ g.sources) (sees : SeesDims g a p) where
  source_seen : (k : ℕ) → k < buffer_count p → nat_lt (a.source + k) g.sources ≡ true
  source_seen k l = lt-ltb (a.source + k) g.sources (omega (arith, room, l))

  own_below : (x : Piece) → Mem x (pieces p) → is_packed p x ≡ false → own_place p x < buffer_count p
  own_below x mem h =
      let f = found-at same_piece same_piece-true same_piece-self x (own_pieces p) x (Mem-filter (λ y. not (is_packed p y)) x (pieces p) mem (ap not h)) in
      omega (arith, f.0)

  pack_below : (c : Column) → is_packed p (CellsOf c) ≡ true → pack_place p (pack_of p c) < buffer_count p
  pack_below c h = let f = found-first (in_pack c) p.packs [] h in omega (arith, f.0)

  column_seen : (c : Column) → Mem (CellsOf c) (pieces p) → SeesColumn g (place_of a p c)
  column_seen c mem = go (is_packed p (CellsOf c)) refl
    where
      go : (b : Bool) → is_packed p (CellsOf c) ≡ b
          → SeesColumn g (cond b (cells.Packed (a.source + pack_place p (pack_of p c)) (length (nth p.packs (pack_of p c))) (position_or_len (same_column c) (nth p.packs (pack_of p c)))) (cells.Own (a.source + own_place p (CellsOf c))))
      go true h = source_seen (pack_place p (pack_of p c)) (pack_below c h)
      go false h = source_seen (own_place p (CellsOf c)) (own_below (CellsOf c) mem h)

  -- the dims of a level with nodes
  nodes_seen : (k : ℕ) → k < length p.levels → has_nodes (kind p k) ≡ true → Mem (CellsOf (LevelColumn k)) (pieces p) → sees_dim g (nodes_of a p k) ≡ true
  nodes_seen k l h mem = go (is_packed p (CellsOf (LevelColumn k))) refl
    where
      go : (b : Bool) → is_packed p (CellsOf (LevelColumn k)) ≡ b → sees_dim g (cond b (dim.Name (nodes_name a k)) (dim.Len (a.source + own_place p (CellsOf (LevelColumn k))))) ≡ true
      go true q = sees.nodes k l h q
      go false q = source_seen (own_place p (CellsOf (LevelColumn k))) (own_below (CellsOf (LevelColumn k)) mem q)

  length_is : (k : ℕ) → HasLength (nodes_of a p k) (place_of a p (LevelColumn k))
  length_is k = go (is_packed p (CellsOf (LevelColumn k)))
    where
      go : (b : Bool)
          → HasLength (cond b (dim.Name (nodes_name a k)) (dim.Len (a.source + own_place p (CellsOf (LevelColumn k)))))
          (cond b (cells.Packed (a.source + pack_place p (pack_of p (LevelColumn k))) (length (nth p.packs (pack_of p (LevelColumn k)))) (position_or_len (same_column (LevelColumn k)) (nth p.packs (pack_of p (LevelColumn k))))) (cells.Own (a.source + own_place p (CellsOf (LevelColumn k)))))
      go true = tt
      go false = refl

  spans_seen : (k : ℕ) → k < length p.levels → has_nodes (kind p k) ≡ true → spans g (below.Below (dim.Name (more_name a k))) (below.Below (dim.Name (more_name a k))) (nodes_of a p k) ≡ true
  spans_seen k l h =
      ap (λ b. b && ends_form (g.dims (more_name a k)) (nodes_of a p k)) (eq-eqb (more_name a k) (more_name a k) refl)
      ∙ ap (λ (f : Option Form). ends_form f (nodes_of a p k)) (sees.more k l h) ∙ same_self (nodes_of a p k)

  nodes_level : (k : ℕ) (r : Range) → k < length p.levels → has_nodes (kind p k) ≡ true → Mem (PosOf k) (pieces p) → Mem (CellsOf (LevelColumn k)) (pieces p) → SeesLoop g (loop_of a p k r)
  nodes_level k r l h i j = (
    source_seen (own_place p (PosOf k)) (own_below (PosOf k) i refl),
    ap (λ (f : Option Form). is_some f) (sees.more k l h),
    nodes_seen k l h j,
    spans_seen k l h,
    column_seen (LevelColumn k) j,
    length_is k,
  )

  size_seen : (e : Tree) (r : Range) → sees_dim g (size_by a (counted_by p.queries e) r) ≡ true
  size_seen e r = by_tree e
    where
      by_query : (v : ℕ) (o : Option ℕ) → counting_query 0 p.queries v ≡ o → sees_dim g (size_by a o r) ≡ true
      by_query v None h = refl
      by_query v (Some q) h =
          let c = counted (record { rows = 0; cols = 0 }) [] p.queries 0 v q h in
          ap (λ n. is_some (g.dims (a.dim + n))) (omega (arith, c.is)) ∙ sees.extents c.place c.query c.there c.counts

      by_tree : (e : Tree) → sees_dim g (size_by a (counted_by p.queries e) r) ≡ true
      by_tree (Variable v) = by_query v (counting_query 0 p.queries v) refl
      by_tree RowIndex = refl
      by_tree ColIndex = refl
      by_tree (Number c) = refl
      by_tree (Sum x y) = refl
      by_tree (Difference x y) = refl
      by_tree (Quotient x k) = refl
      by_tree (Remainder x k) = refl

  levels_seen : (s : Shape) (k : ℕ) (es : List Tree) → k + length es ≡ length p.levels → ((x : Piece) → Mem x (pieces_from p k es) → Mem x (pieces p))
      → SeesLoops g (loops_from a s p k es) × SeesSlots g (slots_from a s p k es)
  levels_seen s k [] n mem = (tt, tt)
  levels_seen s k (e ∷ es) n mem = go (kind p k) refl mem (levels_seen s (suc k) es (omega (arith, n)))
    where
      go : (kd : Kind) → kind p k ≡ kd → ((x : Piece) → Mem x (level_pieces k kd ++ pieces_from p (suc k) es) → Mem x (pieces p))
          → (((x : Piece) → Mem x (pieces_from p (suc k) es) → Mem x (pieces p)) → SeesLoops g (loops_from a s p (suc k) es) × SeesSlots g (slots_from a s p (suc k) es))
          → SeesLoops g (with_loop (level_place a s p k e kd) (loops_from a s p (suc k) es)) × SeesSlots g (with_slot (level_place a s p k e kd) (slots_from a s p (suc k) es))
      go kinds.Full q mem ih = let r = ih mem in ((size_seen e (range_without s p e), r.0), r.1)
      go kinds.Compressed q mem ih =
          let r = ih (λ x i. mem x (inr (inr i))) in
          ((nodes_level k (range_without s p e) (omega (arith, n)) (ap has_nodes q) (mem (PosOf k) (inl refl)) (mem (CellsOf (LevelColumn k)) (inr (inl refl))), r.0), r.1)
      go kinds.Listed q mem ih =
          let r = ih (λ x i. mem x (inr (inr i))) in
          ((nodes_level k (range_without s p e) (omega (arith, n)) (ap has_nodes q) (mem (PosOf k) (inl refl)) (mem (CellsOf (LevelColumn k)) (inr (inl refl))), r.0), r.1)
      go kinds.Slot q mem ih = let r = ih (λ x i. mem x (inr i)) in (r.0, (column_seen (LevelColumn k) (mem (CellsOf (LevelColumn k)) (inl refl)), r.1))

  -- the values are a piece
  value_there : (k : ℕ) (es : List Tree) → Mem (CellsOf ValueColumn) (pieces_from p k es)
  value_there k [] = inl refl
  value_there k (e ∷ es) = Mem-right (CellsOf ValueColumn) (level_pieces k (kind p k)) (pieces_from p (suc k) es) (value_there (suc k) es)

  some_buffer : 0 < buffer_count p
  some_buffer = go (is_packed p (CellsOf ValueColumn)) refl
    where
      go : (b : Bool) → is_packed p (CellsOf ValueColumn) ≡ b → 0 < buffer_count p
      go true h = let l = pack_below ValueColumn h in omega (arith, l)
      go false h = let l = own_below (CellsOf ValueColumn) (value_there 0 p.levels) h in omega (arith, l)

  -- the tables of the queries, numbered from q on
  tables_seen : (t q : ℕ) (qs : List Query) → t + length (filter has_table qs) ≤ buffer_count p
      → ((i : ℕ) (x : Query) → slice_get qs i ≡ Some x → IsTrue (has_extent x) → IsTrue (is_some (g.dims (a.dim + (q + i)))))
      → (i : ℕ) → i < length (tables_from a t q qs)
      → (nat_lt (table (tables_from a t q qs) i).source g.sources ≡ true) × (sees_dim g (table (tables_from a t q qs) i).extent ≡ true)
  tables_seen t q [] n extents i l = absurd (omega (arith, l))
  tables_seen t q (x ∷ qs) n extents zero l = (source (has_table x) refl, extent (has_extent x) refl)
    where
      source : (b : Bool) → has_table x ≡ b → nat_lt (cond b (a.source + t) a.source) g.sources ≡ true
      source true h =
          source_seen t (let m : length (filter has_table (x ∷ qs)) ≡ suc (length (filter has_table qs)) = ap (λ b. length (cond b (x ∷ filter has_table qs) (filter has_table qs))) h in omega (arith, n, m))
      source false h = ap (λ k. nat_lt k g.sources) (omega arith) ∙ source_seen 0 some_buffer

      extent : (b : Bool) → has_extent x ≡ b → sees_dim g (cond b (dim.Name (a.dim + q)) (dim.Number 0)) ≡ true
      extent true h = ap (λ k. is_some (g.dims (a.dim + k))) (omega arith) ∙ extents 0 x refl h
      extent false h = refl
  tables_seen t q (x ∷ qs) n extents (suc i) l =
      tables_seen (cond (has_table x) (suc t) t) (suc q) qs (fewer (has_table x) refl)
      (λ j y at e. ap (λ k. is_some (g.dims (a.dim + k))) (omega arith) ∙ extents (suc j) y at e) i (omega (arith, l))
    where
      fewer : (b : Bool) → has_table x ≡ b → cond b (suc t) t + length (filter has_table qs) ≤ buffer_count p
      fewer true h = let m : length (filter has_table (x ∷ qs)) ≡ suc (length (filter has_table qs)) = ap (λ b. length (cond b (x ∷ filter has_table qs) (filter has_table qs))) h in omega (arith, n, m)
      fewer false h = let m : length (filter has_table (x ∷ qs)) ≡ length (filter has_table qs) = ap (λ b. length (cond b (x ∷ filter has_table qs) (filter has_table qs))) h in omega (arith, n, m)

  places_seen : (s : Shape) (w : Places) → ArePlacesOf a s p w → SeesPlaces g w
  places_seen s w at =
      let levels = levels_seen s 0 p.levels (omega arith) (λ x i. i) in
      let tables = tables_seen (extent_count p) 0 p.queries (omega (arith, length-filter has_table p.queries)) (λ i x h e. ap (λ k. is_some (g.dims (a.dim + k))) (omega arith) ∙ sees.extents i x h e) in
      record {
        loops = subst (λ (ls : List Loop). SeesLoops g ls) (sym at.loops) levels.0;
        values = subst (λ (c : Place). SeesColumn g c) (sym at.values) (column_seen ValueColumn (value_there 0 p.levels));
        slots = subst (λ (xs : List Slot). SeesSlots g xs) (sym at.slots) levels.1;
        tables = subst (λ (ts : List Table). (q : ℕ) → q < length ts → nat_lt (table ts q).source g.sources ≡ true) (sym at.tables) (λ q l. (tables q l).0);
        extents = subst (λ (ts : List Table). (q : ℕ) → q < length ts → sees_dim g (table ts q).extent ≡ true) (sym at.tables) (λ q l. (tables q l).1);
      }

  pub part-seen : (s : Shape) (x : PartWalk) → IsOrderly p → IsWalkOf a s p x → SeesPart g x
  part-seen s x orderly walk =
      record {
        places = places_seen s x.places walk.places;
        names = λ n.
            let c = places-cover a s p [] x.places n orderly walk.places in
            names-there p x.steps.items walk.steps (length (coordinates x.places n)) (length x.places.tables.items) c.levels c.tables;
      }

-- ---- all parts

parts_seen : (g : Context) (a : PartStart) (s : Shape) (ps : List Part) (xs : List PartWalk) → ((p : Part) → Mem p ps → IsOrderly p) → AreWalksOf a s ps xs → a.source + sum_by buffer_count ps ≤ g.sources → SeeDims g a ps
    → SeesParts g xs
parts_seen g a s [] [] orderly w room sees = tt
parts_seen g a s [] (x ∷ xs) orderly w room sees = absurd w
parts_seen g a s (p ∷ ps) [] orderly w room sees = absurd w
parts_seen g a s (p ∷ ps) (x ∷ xs) orderly w room sees = (
  part-seen g a p (omega (arith, room, sum_by-cons buffer_count p ps)) sees.0 s x (orderly p (inl refl)) w.0,
  parts_seen g (next_start a p) s ps xs (λ q i. orderly q (inr i)) w.1 (omega (arith, room, sum_by-cons buffer_count p ps)) sees.1,
)

pub walks-seen : WalksAreSeen
walks-seen g a s d xs valid kept walks room sees =
    parts_seen g a s (declaration_of d).parts xs (λ p i. all-Mem IsOrderly (declaration_of d).parts p (all-orderly d valid kept) i) walks room sees
