-- The dims of the phase are those that the places of a part want.
use Rattle.std.proofs.Common.{◌≡◌, ◌≢◌, ℕ, zero, suc, ◌+◌, ◌*◌, ◌/◌, ◌<◌, ◌≤◌, ◌⊎◌, List, [], ◌∷◌, ◌++◌, map, length, get_or, Bool, true, false, cond, not, ℤ, pos, Option, Some, None, sym, refl, ap, ◌∙◌, subst, inl, inr, arith, filter}
use Rattle.std.specs.Prelude.{slice_get, All}
use Rattle.std.specs.List.{position_or_len, range_with_len}
use Rattle.std.proofs.lemmas.List.{length-map, append-nil, length-append}
use Rattle.std.proofs.lemmas.List.FromFn.{length-range_with_len}
use Rattle.us_expr.specs.Tree.{Tree}
use Rattle.us_format.specs.declared.Kind.{Kind}
use Rattle.us_format.specs.declared.Kind.TheVariants as kinds
use Rattle.us_format.specs.Lists.{nth, cell, nat_of}
use Rattle.us_format.specs.Matrix.{Shape, Entry}
use Rattle.us_format.specs.Declaration.{Query, SumOf, Enumerate, Reorder, Schedule, LevelColumn, Part, same_column, has_extent, has_table}
use Rattle.us_format.specs.Queries.{extent_of}
use Rattle.us_format.specs.Kinds.{kind}
use Rattle.us_format.specs.Packs.{Piece, CellsOf, pieces, pieces_from, level_pieces, own_pieces, is_packed, same_piece, Buffer, written, nothing}
use Rattle.us_format.specs.Buffers.{extent_buffer, table_buffer, piece_buffers, part_buffers}
use Rattle.us_format.specs.Packs as packs
use Rattle.us_format.specs.Reading.{extent_count, own_place, pack_place, buffer_count, pack_of, packed_cells, limit}
use Rattle.us_format.specs.Rules.{ArePacksLawful}
use Rattle.us_format.proofs.Order.{Mem, Mem-filter}
use Rattle.us_format.proofs.Members.{Mem-right}
use Rattle.us_format.proofs.Pieces.{found-at, same_piece-true, same_piece-self}
use Rattle.us_format.proofs.Places.{laid, pack-found, stand-packed, stand-extents, buffers-number}
use Rattle.us_format_loops.specs.Nodes.{has_nodes}
use Rattle.us_code.specs.declared.program.Dim.TheVariants as dim
use Rattle.us_code.specs.Plain.{Reg, LineTree}
use Rattle.us_code.specs.Plain as plain
use Rattle.us_code.specs.Run.{Env, size_of}
use Rattle.us_code.specs.Typing.{Of, Successor, Context, is_some}
use Rattle.us_gen_walk.specs.declared.places.Column.TheVariants as cells
use Rattle.us_gen_walk.specs.declared.places.Loop.{Loop}
use Rattle.us_gen_places.specs.declared.start.PartStart.{PartStart}
use Rattle.us_gen_places.specs.Places.{nodes_name, more_name, place_of, nodes_of, level_place, with_loop, loops_from, tables_from}
use Rattle.us_gen_places.specs.Holds.{held_by, node_count, HoldParts}
use Rattle.us_gen_places.specs.Dims.{next_start, HaveDims, SeeDims, dim_count}
use Rattle.us_gen_opening.specs.declared.parts.Extent.{Extent}
use Rattle.us_gen_opening.specs.declared.parts.Opening.{Opening}
use Rattle.us_gen_opening.specs.Opening.{extents_from, extent_lines, nodes_lines, loop_lines, counter, total_term, opening_lines}
use Rattle.us_gen_opening.specs.Dims.{name_of, IsOther, AreNew, CountsNodes, AreNamed, cell_count, ExtentsStand, ExtentsAre, NodesAre, DimsAre, ExtentsSeen, CountSeen, NodesSeen, DimsSeen}
use Rattle.us_gen_opening.specs.Tells.{IsOpeningOf, HoldsBuffers, OpeningTells, AreOpeningsOf, OpeningsTell}

-- ---- levels

module _ (a : PartStart) (s : Shape) (p : Part) where
  counts : (k : ℕ) → CountsNodes (place_of a p (LevelColumn k)) (nodes_of a p k)
  counts k = go (is_packed p (CellsOf (LevelColumn k)))
    where
      go : (b : Bool)
          → CountsNodes
          (cond b (cells.Packed (a.source + pack_place p (pack_of p (LevelColumn k))) (length (nth p.packs (pack_of p (LevelColumn k)))) (position_or_len (same_column (LevelColumn k)) (nth p.packs (pack_of p (LevelColumn k)))))
          (cells.Own (a.source + own_place p (CellsOf (LevelColumn k)))))
          (cond b (dim.Name (nodes_name a k)) (dim.Len (a.source + own_place p (CellsOf (LevelColumn k)))))
      go true = tt
      go false = refl

  named : (k : ℕ) (es : List Tree) → AreNamed (loops_from a s p k es)
  named k [] = tt
  named k (e ∷ es) = go (kind p k) (named (suc k) es)
    where
      go : (kd : Kind) → AreNamed (loops_from a s p (suc k) es) → AreNamed (with_loop (level_place a s p k e kd) (loops_from a s p (suc k) es))
      go kinds.Full ih = ih
      go kinds.Compressed ih = (tt, counts k, ih)
      go kinds.Listed ih = (tt, counts k, ih)
      go kinds.Slot ih = ih

  -- a level with nodes has a column of coordinates
  there : (k : ℕ) (es : List Tree) (i j : ℕ) → j ≡ k + i → i < length es → has_nodes (kind p j) ≡ true → Mem (CellsOf (LevelColumn j)) (pieces_from p k es)
  there k [] i j e l h = absurd (omega (arith, l))
  there k (x ∷ es) zero j e l h =
      let same : j ≡ k = omega (arith, e) in
      subst (λ (n : ℕ). Mem (CellsOf (LevelColumn n)) (level_pieces k (kind p k) ++ pieces_from p (suc k) es)) (sym same) (go (kind p k) (ap (λ (n : ℕ). has_nodes (kind p n)) (sym same) ∙ h))
    where
      go : (kd : Kind) → has_nodes kd ≡ true → Mem (CellsOf (LevelColumn k)) (level_pieces k kd ++ pieces_from p (suc k) es)
      go kinds.Full h = absurd cc
      go kinds.Compressed h = inr (inl refl)
      go kinds.Listed h = inr (inl refl)
      go kinds.Slot h = absurd cc
  there k (x ∷ es) (suc i) j e l h = Mem-right (CellsOf (LevelColumn j)) (level_pieces k (kind p k)) (pieces_from p (suc k) es) (there (suc k) es i j (omega (arith, e)) (omega (arith, l)) h)

  module _ (env : Env) where
    record LevelDims (k : ℕ) : Type 0 where
      nodes : size_of env (nodes_of a p k) ≡ cell_count env.sources (place_of a p (LevelColumn k))
      more : env.dims (more_name a k) ≡ size_of env (nodes_of a p k) + 1

    level_dims : (k : ℕ) (es : List Tree) → NodesAre env (loops_from a s p k es) → (i j : ℕ) → j ≡ k + i → i < length es → has_nodes (kind p j) ≡ true → LevelDims j
    level_dims k [] are i j e l h = absurd (omega (arith, l))
    level_dims k (x ∷ es) are zero j e l h =
        let same : j ≡ k = omega (arith, e) in
        subst LevelDims (sym same) (go (kind p k) (ap (λ (n : ℕ). has_nodes (kind p n)) (sym same) ∙ h) are)
      where
        go : (kd : Kind) → has_nodes kd ≡ true → NodesAre env (with_loop (level_place a s p k x kd) (loops_from a s p (suc k) es)) → LevelDims k
        go kinds.Full h are = absurd cc
        go kinds.Compressed h are = record { nodes = are.0; more = are.1 }
        go kinds.Listed h are = record { nodes = are.0; more = are.1 }
        go kinds.Slot h are = absurd cc
    level_dims k (x ∷ es) are (suc i) j e l h = level_dims (suc k) es (go (kind p k) are) i j (omega (arith, e)) (omega (arith, l)) h
      where
        go : (kd : Kind) → NodesAre env (with_loop (level_place a s p k x kd) (loops_from a s p (suc k) es)) → NodesAre env (loops_from a s p (suc k) es)
        go kinds.Full are = are
        go kinds.Compressed are = are.2
        go kinds.Listed are = are.2
        go kinds.Slot are = are

  module _ (g : Context) where
    record LevelForms (k : ℕ) : Type 0 where
      nodes : CountSeen g (place_of a p (LevelColumn k)) (nodes_of a p k)
      more : g.dims (more_name a k) ≡ Some (Successor (nodes_of a p k))

    level_forms : (k : ℕ) (es : List Tree) → NodesSeen g (loops_from a s p k es) → (i j : ℕ) → j ≡ k + i → i < length es → has_nodes (kind p j) ≡ true → LevelForms j
    level_forms k [] are i j e l h = absurd (omega (arith, l))
    level_forms k (x ∷ es) are zero j e l h =
        let same : j ≡ k = omega (arith, e) in
        subst LevelForms (sym same) (go (kind p k) (ap (λ (n : ℕ). has_nodes (kind p n)) (sym same) ∙ h) are)
      where
        go : (kd : Kind) → has_nodes kd ≡ true → NodesSeen g (with_loop (level_place a s p k x kd) (loops_from a s p (suc k) es)) → LevelForms k
        go kinds.Full h are = absurd cc
        go kinds.Compressed h are = record { nodes = are.0; more = are.1 }
        go kinds.Listed h are = record { nodes = are.0; more = are.1 }
        go kinds.Slot h are = absurd cc
    level_forms k (x ∷ es) are (suc i) j e l h = level_forms (suc k) es (go (kind p k) are) i j (omega (arith, e)) (omega (arith, l)) h
      where
        go : (kd : Kind) → NodesSeen g (with_loop (level_place a s p k x kd) (loops_from a s p (suc k) es)) → NodesSeen g (loops_from a s p (suc k) es)
        go kinds.Full are = are
        go kinds.Compressed are = are.2
        go kinds.Listed are = are.2
        go kinds.Slot are = are

    packed_seen : (k : ℕ) → is_packed p (CellsOf (LevelColumn k)) ≡ true → CountSeen g (place_of a p (LevelColumn k)) (nodes_of a p k) → is_some (g.dims (nodes_name a k)) ≡ true
    packed_seen k q = go (is_packed p (CellsOf (LevelColumn k))) q
      where
        go : (b : Bool) → b ≡ true
            → CountSeen g
            (cond b (cells.Packed (a.source + pack_place p (pack_of p (LevelColumn k))) (length (nth p.packs (pack_of p (LevelColumn k)))) (position_or_len (same_column (LevelColumn k)) (nth p.packs (pack_of p (LevelColumn k)))))
            (cells.Own (a.source + own_place p (CellsOf (LevelColumn k)))))
            (cond b (dim.Name (nodes_name a k)) (dim.Len (a.source + own_place p (CellsOf (LevelColumn k)))))
            → is_some (g.dims (nodes_name a k)) ≡ true
        go true q c = ap is_some c
        go false q c = absurd cc

  -- as many nodes as the cells by their places
  module _ (sources : ℕ → List ℤ) (m : List Entry) (lawful : ArePacksLawful p) (held : HoldsBuffers sources a s p m) where
    source_is : (k : ℕ) → k < buffer_count p → sources (a.source + k) ≡ nth (held_by s p m) k
    source_is k l = held k (rw (buffers-number s p m lawful []) l)

    count_is : (k : ℕ) → Mem (CellsOf (LevelColumn k)) (pieces p) → cell_count sources (place_of a p (LevelColumn k)) ≡ node_count p (held_by s p m) k
    count_is k mem = go (is_packed p (CellsOf (LevelColumn k))) refl
      where
        go : (b : Bool) → is_packed p (CellsOf (LevelColumn k)) ≡ b
            → cell_count sources
            (cond b (cells.Packed (a.source + pack_place p (pack_of p (LevelColumn k))) (length (nth p.packs (pack_of p (LevelColumn k)))) (position_or_len (same_column (LevelColumn k)) (nth p.packs (pack_of p (LevelColumn k)))))
            (cells.Own (a.source + own_place p (CellsOf (LevelColumn k)))))
            ≡ length (cond b (packed_cells p (held_by s p m) (pack_of p (LevelColumn k)) (LevelColumn k)) (nth (held_by s p m) (own_place p (CellsOf (LevelColumn k)))))
        go true h =
            let found = pack-found p (piece_buffers s p m) (laid s p m lawful []) (stand-packed s p m lawful []) (LevelColumn k) h in
            let j : ℕ = pack_of p (LevelColumn k) in
            let w : ℕ = length (nth p.packs (pack_of p (LevelColumn k))) in
            let src = source_is (pack_place p (pack_of p (LevelColumn k))) (omega (arith, found.0)) in
            let xs : List ℤ = nth (held_by s p m) (pack_place p (pack_of p (LevelColumn k))) in
            let y : ℕ = position_or_len (same_column (LevelColumn k)) (nth p.packs (pack_of p (LevelColumn k))) in
            ap (λ (ys : List ℤ). length ys / length (nth p.packs (pack_of p (LevelColumn k)))) src
            ∙ sym (length-map (range_with_len 0 (length xs / w)) (λ (x : ℕ). cell xs (x * w + y)) ∙ length-range_with_len 0 (length xs / w))
        go false h =
            let f = found-at same_piece same_piece-true same_piece-self (CellsOf (LevelColumn k)) (own_pieces p) (CellsOf (LevelColumn k)) (Mem-filter (λ y. not (is_packed p y)) (CellsOf (LevelColumn k)) (pieces p) mem (ap not h)) in
            ap (λ (ys : List ℤ). length ys) (source_is (own_place p (CellsOf (LevelColumn k))) (omega (arith, f.0)))

-- ---- extents

no_some : {A : Type 0} {x : A} → ◌≡◌ {A = Option A} None (Some x) → ⊥
no_some h = cc

some_is : {x y : Query} → Some x ≡ Some y → x ≡ y
some_is h = cc

-- the query at the front
front : {y x : Query} → has_extent y ≡ false → Some y ≡ Some x → has_extent x ≡ true → ⊥
front {y} {x} f e t = let z : true ≡ false = sym t ∙ (ap has_extent (sym (some_is e)) ∙ f) in absurd cc

module _ (m : List Entry) (s : Shape) (a : PartStart) (sources : ℕ → List ℤ) where
  -- the buffers of the extents of queries stand in the sources from k on
  abbrev Stands : ℕ → List Query → Type 0
  Stands k qs = (j : ℕ) → j < length (map (extent_buffer m s) (filter has_extent qs)) → sources (k + j) ≡ written (get_or (map (extent_buffer m s) (filter has_extent qs)) j nothing)

  head_stands : (k : ℕ) (b : Buffer) (bs : List Buffer) → ((j : ℕ) → j < length (b ∷ bs) → sources (k + j) ≡ written (get_or (b ∷ bs) j nothing)) → sources k ≡ written b
  head_stands k b bs h = let e : k ≡ k + 0 = omega arith in ap sources e ∙ h 0 (omega arith)

  tail_stands : (k : ℕ) (b : Buffer) (bs : List Buffer) → ((j : ℕ) → j < length (b ∷ bs) → sources (k + j) ≡ written (get_or (b ∷ bs) j nothing)) → (j : ℕ) → j < length bs → sources (k + 1 + j) ≡ written (get_or bs j nothing)
  tail_stands k b bs h j l = let e : k + 1 + j ≡ k + suc j = omega arith in ap sources e ∙ h (suc j) (omega (arith, l))

  stand : (t q k : ℕ) (qs : List Query) → Stands k qs → All (λ n. n ≤ limit) (map (extent_of m s) qs) → ExtentsStand sources (extents_from k (tables_from a t q qs))
  stand t q k [] h small = tt
  stand t q k (SumOf v e ∷ qs) h small = stand t (suc q) k qs h (λ i d l. small (suc i) d (omega (arith, l)))
  stand t q k (Enumerate v e ∷ qs) h small =
      (extent_of m s (Enumerate v e), head_stands k (extent_buffer m s (Enumerate v e)) _ h, small 0 0 (omega arith), stand t (suc q) (k + 1) qs (tail_stands k (extent_buffer m s (Enumerate v e)) _ h) (λ i d l. small (suc i) d (omega (arith, l))))
  stand t q k (Reorder v e ∷ qs) h small = stand (suc t) (suc q) k qs h (λ i d l. small (suc i) d (omega (arith, l)))
  stand t q k (Schedule u v e n ∷ qs) h small =
      (extent_of m s (Schedule u v e n), head_stands k (extent_buffer m s (Schedule u v e n)) _ h, small 0 0 (omega arith), stand (suc t) (suc q) (k + 1) qs (tail_stands k (extent_buffer m s (Schedule u v e n)) _ h) (λ i d l. small (suc i) d (omega (arith, l))))

module _ (m : List Entry) (s : Shape) (a : PartStart) (env : Env) where
  -- the extents of the queries, numbered from q on, are dims
  abbrev Told : ℕ → List Query → Type 0
  Told q qs = (i : ℕ) (x : Query) → slice_get qs i ≡ Some x → has_extent x ≡ true → env.dims (a.dim + (q + i)) ≡ extent_of m s x

  told_later : (q i : ℕ) (n : ℕ) → env.dims (a.dim + (suc q + i)) ≡ n → env.dims (a.dim + (q + suc i)) ≡ n
  told_later q i n h = let e : a.dim + (q + suc i) ≡ a.dim + (suc q + i) = omega arith in ap env.dims e ∙ h

  told_first : (q k : ℕ) (y x : Query) → env.sources k ≡ pos (env.dims (a.dim + q)) ∷ [] → env.sources k ≡ pos (extent_of m s y) ∷ [] → Some y ≡ Some x → env.dims (a.dim + (q + 0)) ≡ extent_of m s x
  told_first q k y x is held e =
      let at : a.dim + (q + 0) ≡ a.dim + q = omega arith in
      ap env.dims at ∙ (ap (λ (xs : List ℤ). nat_of (cell xs 0)) (sym is ∙ held) ∙ ap (extent_of m s) (some_is e))

  tell : (t q k : ℕ) (qs : List Query) → Stands m s a env.sources k qs → ExtentsAre env (extents_from k (tables_from a t q qs)) → Told q qs
  tell t q k [] h are i x e ex = absurd (no_some e)
  tell t q k (SumOf v e ∷ qs) h are zero x at ex = absurd (front refl at ex)
  tell t q k (SumOf v e ∷ qs) h are (suc i) x at ex = told_later q i (extent_of m s x) (tell t (suc q) k qs h are i x at ex)
  tell t q k (Enumerate v e ∷ qs) h are zero x at ex = told_first q k (Enumerate v e) x are.0 (head_stands m s a env.sources k (extent_buffer m s (Enumerate v e)) _ h) at
  tell t q k (Enumerate v e ∷ qs) h are (suc i) x at ex =
      told_later q i (extent_of m s x) (tell t (suc q) (k + 1) qs (tail_stands m s a env.sources k (extent_buffer m s (Enumerate v e)) _ h) are.1 i x at ex)
  tell t q k (Reorder v e ∷ qs) h are zero x at ex = absurd (front refl at ex)
  tell t q k (Reorder v e ∷ qs) h are (suc i) x at ex = told_later q i (extent_of m s x) (tell (suc t) (suc q) k qs h are i x at ex)
  tell t q k (Schedule u v e n ∷ qs) h are zero x at ex = told_first q k (Schedule u v e n) x are.0 (head_stands m s a env.sources k (extent_buffer m s (Schedule u v e n)) _ h) at
  tell t q k (Schedule u v e n ∷ qs) h are (suc i) x at ex =
      told_later q i (extent_of m s x) (tell (suc t) (suc q) (k + 1) qs (tail_stands m s a env.sources k (extent_buffer m s (Schedule u v e n)) _ h) are.1 i x at ex)

module _ (a : PartStart) (g : Context) where
  seen_later : (q i : ℕ) → is_some (g.dims (a.dim + (suc q + i))) ≡ true → is_some (g.dims (a.dim + (q + suc i))) ≡ true
  seen_later q i h = let e : a.dim + (q + suc i) ≡ a.dim + (suc q + i) = omega arith in ap (λ (d : ℕ). is_some (g.dims d)) e ∙ h

  seen_first : (q : ℕ) → g.dims (a.dim + q) ≡ Some Of → is_some (g.dims (a.dim + (q + 0))) ≡ true
  seen_first q h = let e : a.dim + (q + 0) ≡ a.dim + q = omega arith in ap (λ (d : ℕ). is_some (g.dims d)) e ∙ ap is_some h

  seen : (t q k : ℕ) (qs : List Query) → ExtentsSeen g (extents_from k (tables_from a t q qs)) → (i : ℕ) (x : Query) → slice_get qs i ≡ Some x → has_extent x ≡ true → is_some (g.dims (a.dim + (q + i))) ≡ true
  seen t q k [] are i x e ex = absurd (no_some e)
  seen t q k (SumOf v e ∷ qs) are zero x at ex = absurd (front refl at ex)
  seen t q k (SumOf v e ∷ qs) are (suc i) x at ex = seen_later q i (seen t (suc q) k qs are i x at ex)
  seen t q k (Enumerate v e ∷ qs) are zero x at ex = seen_first q are.0
  seen t q k (Enumerate v e ∷ qs) are (suc i) x at ex = seen_later q i (seen t (suc q) (k + 1) qs are.1 i x at ex)
  seen t q k (Reorder v e ∷ qs) are zero x at ex = absurd (front refl at ex)
  seen t q k (Reorder v e ∷ qs) are (suc i) x at ex = seen_later q i (seen (suc t) (suc q) k qs are i x at ex)
  seen t q k (Schedule u v e n ∷ qs) are zero x at ex = seen_first q are.0
  seen t q k (Schedule u v e n ∷ qs) are (suc i) x at ex = seen_later q i (seen (suc t) (suc q) (k + 1) qs are.1 i x at ex)

-- ---- a part

-- its extents come first among its buffers
extents_stand : (sources : ℕ → List ℤ) (a : PartStart) (s : Shape) (p : Part) (m : List Entry) → ArePacksLawful p → HoldsBuffers sources a s p m → Stands m s a sources a.source p.queries
extents_stand sources a s p m lawful held j l =
    let first = stand-extents s p m lawful [] in
    let long : length (part_buffers s p m) ≡ length (map (extent_buffer m s) (filter has_extent p.queries)) + length (map (table_buffer m s) (filter has_table p.queries) ++ packs.packed p (piece_buffers s p m)) =
    length-append (map (extent_buffer m s) (filter has_extent p.queries)) (map (table_buffer m s) (filter has_table p.queries) ++ packs.packed p (piece_buffers s p m)) in
    let inside : j < length (part_buffers s p m) = omega (arith, l, long) in
    held j inside ∙ (ap (λ (xs : List (List ℤ)). nth xs j) (sym (append-nil (held_by s p m))) ∙ first j j (omega arith) l)

zero_plus : (q : ℕ) → 0 + q ≡ q
zero_plus q = omega arith

pub opening_tells : OpeningTells
opening_tells = record {
  named = λ a s p o of. subst AreNamed (sym of.loops) (named a s p 0 p.levels);
  extents = λ sources a s p m o of lawful held small.
      subst (ExtentsStand sources) (sym of.extents) (stand m s a sources (extent_count p) 0 a.source p.queries (extents_stand sources a s p m lawful held) small);
  dims = λ env a s p m o of lawful held extents nodes.
      let told : Told m s a env 0 p.queries = tell m s a env (extent_count p) 0 a.source p.queries (extents_stand env.sources a s p m lawful held) (subst (ExtentsAre env) of.extents extents) in
      let levels : NodesAre env (loops_from a s p 0 p.levels) = subst (NodesAre env) of.loops nodes in
      let level : (k : ℕ) → k < length p.levels → has_nodes (kind p k) ≡ true → LevelDims a s p env k = λ k l h. level_dims a s p env 0 p.levels levels k k (omega arith) l h in
      let count : (k : ℕ) → k < length p.levels → has_nodes (kind p k) ≡ true → size_of env (nodes_of a p k) ≡ node_count p (held_by s p m) k =
      λ k l h. (level k l h).nodes ∙ count_is a s p env.sources m lawful held k (there a s p 0 p.levels k k (omega arith) l h) in
      record {
        extents = λ q x at ex. ap (λ (n : ℕ). env.dims (a.dim + n)) (sym (zero_plus q)) ∙ told q x at ex;
        nodes = λ k l h q. sym (ap (λ (b : Bool). size_of env (cond b (dim.Name (nodes_name a k)) (dim.Len (a.source + own_place p (CellsOf (LevelColumn k)))))) q) ∙ count k l h;
        more = λ k l h. (level k l h).more ∙ ap (λ (n : ℕ). n + 1) (count k l h);
      };
  forms = λ g a s p o of extents nodes.
      let told = seen a g (extent_count p) 0 a.source p.queries (subst (ExtentsSeen g) of.extents extents) in
      let levels : NodesSeen g (loops_from a s p 0 p.levels) = subst (NodesSeen g) of.loops nodes in
      let level : (k : ℕ) → k < length p.levels → has_nodes (kind p k) ≡ true → LevelForms a s p g k = λ k l h. level_forms a s p g 0 p.levels levels k k (omega arith) l h in
      record {
        extents = λ q x at ex. ap (λ (n : ℕ). is_some (g.dims (a.dim + n))) (sym (zero_plus q)) ∙ told q x at ex;
        nodes = λ k l h q. packed_seen a s p g k q (level k l h).nodes;
        more = λ k l h. (level k l h).more;
      };
}

-- ---- names

-- every dim of the lines is from lo on, and below hi
abbrev Within : ℕ → ℕ → List LineTree → Type 0
Within lo hi [] = Unit {0}
Within lo hi (l ∷ ls) = (lo ≤ name_of l) × (name_of l < hi) × Within lo hi ls

within_more : (lo hi lower higher : ℕ) (ls : List LineTree) → lower ≤ lo → hi ≤ higher → Within lo hi ls → Within lower higher ls
within_more lo hi lower higher [] a b w = tt
within_more lo hi lower higher (l ∷ ls) a b w = (omega (arith, a, w.0), omega (arith, b, w.1), within_more lo hi lower higher ls a b w.2)

other_within : (d lo hi : ℕ) (ls : List LineTree) → (d < lo) ⊎ (hi ≤ d) → Within lo hi ls → IsOther d ls
other_within d lo hi [] o w = tt
other_within d lo hi (l ∷ ls) o w = (differs o, other_within d lo hi ls o w.2)
  where
    differs : (d < lo) ⊎ (hi ≤ d) → d ≢ name_of l
    differs (inl x) e = omega (arith, x, e, w.0)
    differs (inr x) e = omega (arith, x, e, w.1)

other_both : (d : ℕ) (xs ys : List LineTree) → IsOther d xs → IsOther d ys → IsOther d (xs ++ ys)
other_both d [] ys x y = y
other_both d (l ∷ xs) ys x y = (x.0, other_both d xs ys x.1 y)

-- every dim of the lines is below lo, or from hi on
abbrev Outside : ℕ → ℕ → List LineTree → Type 0
Outside lo hi [] = Unit {0}
Outside lo hi (l ∷ ls) = ((name_of l < lo) ⊎ (hi ≤ name_of l)) × Outside lo hi ls

outside_behind : (lo hi from to : ℕ) (ls : List LineTree) → hi ≤ from → Within from to ls → Outside lo hi ls
outside_behind lo hi from to [] le w = tt
outside_behind lo hi from to (l ∷ ls) le w = (inr (omega (arith, le, w.0)), outside_behind lo hi from to ls le w.2)

outside_both : (lo hi : ℕ) (xs ys : List LineTree) → Outside lo hi xs → Outside lo hi ys → Outside lo hi (xs ++ ys)
outside_both lo hi [] ys x y = y
outside_both lo hi (l ∷ xs) ys x y = (x.0, outside_both lo hi xs ys x.1 y)

other_outside : (d lo hi : ℕ) (ls : List LineTree) → lo ≤ d → d < hi → Outside lo hi ls → IsOther d ls
other_outside d lo hi [] a b o = tt
other_outside d lo hi (l ∷ ls) a b o = (differs o.0, other_outside d lo hi ls a b o.1)
  where
    differs : (name_of l < lo) ⊎ (hi ≤ name_of l) → d ≢ name_of l
    differs (inl x) e = omega (arith, x, e, a)
    differs (inr x) e = omega (arith, x, e, b)

new_apart : (low lo hi : ℕ) (xs ys : List LineTree) → AreNew low xs → AreNew low ys → Within lo hi xs → Outside lo hi ys → AreNew low (xs ++ ys)
new_apart low lo hi [] ys nx ny w o = ny
new_apart low lo hi (l ∷ xs) ys nx ny w o = (nx.0, other_both (name_of l) xs ys nx.1 (other_outside (name_of l) lo hi ys w.0 w.1 o), new_apart low lo hi xs ys nx.2 ny w.2 o)

new_lower : (low lower : ℕ) (ls : List LineTree) → lower ≤ low → AreNew low ls → AreNew lower ls
new_lower low lower [] le n = tt
new_lower low lower (l ∷ ls) le n = (omega (arith, le, n.0), n.1, new_lower low lower ls le n.2)

-- lines with dims in a range, each made once
record Named (lo hi : ℕ) (ls : List LineTree) : Type 0 where
  new : AreNew lo ls
  within : Within lo hi ls

named_none : (lo hi : ℕ) → Named lo hi []
named_none lo hi = record { new = tt; within = tt }

named_more : (lo hi lower higher : ℕ) (ls : List LineTree) → lower ≤ lo → hi ≤ higher → Named lo hi ls → Named lower higher ls
named_more lo hi lower higher ls a b n = record { new = new_lower lo lower ls a n.new; within = within_more lo hi lower higher ls a b n.within }

named_first : (d hi : ℕ) (l : LineTree) (ls : List LineTree) → name_of l ≡ d → d < hi → Named (d + 1) hi ls → Named d hi (l ∷ ls)
named_first d hi l ls e lt n = record {
  new = (omega (arith, e), other_within (name_of l) (d + 1) hi ls (inl (omega (arith, e))) n.within, new_lower (d + 1) d ls (omega arith) n.new);
  within = (omega (arith, e), omega (arith, e, lt), within_more (d + 1) hi d hi ls (omega arith) (omega arith) n.within);
}

module _ (a : PartStart) where
  extents_skip : (q l : ℕ) (ls : List LineTree) → Named (a.dim + suc q) (a.dim + suc q + l) ls → Named (a.dim + q) (a.dim + q + suc l) ls
  extents_skip q l ls n = named_more (a.dim + suc q) (a.dim + suc q + l) (a.dim + q) (a.dim + q + suc l) ls (omega arith) (omega arith) n

  extents_take : (q l : ℕ) (x : LineTree) (ls : List LineTree) → name_of x ≡ a.dim + q → Named (a.dim + suc q) (a.dim + suc q + l) ls → Named (a.dim + q) (a.dim + q + suc l) (x ∷ ls)
  extents_take q l x ls e n =
      named_first (a.dim + q) (a.dim + q + suc l) x ls e (omega arith) (named_more (a.dim + suc q) (a.dim + suc q + l) (a.dim + q + 1) (a.dim + q + suc l) ls (omega arith) (omega arith) n)

  extents_named : (t q k n : ℕ) (qs : List Query) → Named (a.dim + q) (a.dim + q + length qs) (extent_lines (extents_from k (tables_from a t q qs)) n)
  extents_named t q k n [] = named_none (a.dim + q) (a.dim + q + 0)
  extents_named t q k n (SumOf v e ∷ qs) = extents_skip q (length qs) (extent_lines (extents_from k (tables_from a t (suc q) qs)) n) (extents_named t (suc q) k n qs)
  extents_named t q k n (Enumerate v e ∷ qs) =
      extents_take q (length qs) (plain.Of (a.dim + q) (Reg n)) (extent_lines (extents_from (k + 1) (tables_from a t (suc q) qs)) (n + 3)) refl (extents_named t (suc q) (k + 1) (n + 3) qs)
  extents_named t q k n (Reorder v e ∷ qs) = extents_skip q (length qs) (extent_lines (extents_from k (tables_from a (suc t) (suc q) qs)) n) (extents_named (suc t) (suc q) k n qs)
  extents_named t q k n (Schedule u v e w ∷ qs) =
      extents_take q (length qs) (plain.Of (a.dim + q) (Reg n)) (extent_lines (extents_from (k + 1) (tables_from a (suc t) (suc q) qs)) (n + 3)) refl (extents_named (suc t) (suc q) (k + 1) (n + 3) qs)

  module _ (s : Shape) (p : Part) where
    level_named : (k : ℕ) (es : List Tree) → Named (a.dim + 16 + 2 * k) (a.dim + 16 + 2 * (k + length es)) (loop_lines (loops_from a s p k es))
    level_named k [] = named_none (a.dim + 16 + 2 * k) (a.dim + 16 + 2 * (k + 0))
    level_named k (e ∷ es) = go (kind p k) (level_named (suc k) es)
      where
        nodes : Named (a.dim + 16 + 2 * (suc k)) (a.dim + 16 + 2 * (suc k + length es)) (loop_lines (loops_from a s p (suc k) es))
            → Named (a.dim + 16 + 2 * k) (a.dim + 16 + 2 * (k + suc (length es)))
            ((nodes_lines (place_of a p (LevelColumn k)) (nodes_of a p k) ++ (plain.Successor (more_name a k) (nodes_of a p k) ∷ [])) ++ loop_lines (loops_from a s p (suc k) es))
        nodes ih = by (is_packed p (CellsOf (LevelColumn k)))
          where
            by : (b : Bool)
                → Named (a.dim + 16 + 2 * k) (a.dim + 16 + 2 * (k + suc (length es)))
                ((nodes_lines
                (cond b (cells.Packed (a.source + pack_place p (pack_of p (LevelColumn k))) (length (nth p.packs (pack_of p (LevelColumn k)))) (position_or_len (same_column (LevelColumn k)) (nth p.packs (pack_of p (LevelColumn k)))))
                (cells.Own (a.source + own_place p (CellsOf (LevelColumn k)))))
                (cond b (dim.Name (nodes_name a k)) (dim.Len (a.source + own_place p (CellsOf (LevelColumn k)))))
                ++ (plain.Successor (more_name a k) (cond b (dim.Name (nodes_name a k)) (dim.Len (a.source + own_place p (CellsOf (LevelColumn k))))) ∷ [])) ++ loop_lines (loops_from a s p (suc k) es))
            by true =
                named_first (a.dim + 16 + 2 * k) (a.dim + 16 + 2 * (k + suc (length es))) _ _ refl (omega arith)
                (named_first (a.dim + 16 + 2 * k + 1) (a.dim + 16 + 2 * (k + suc (length es))) _ _ (omega arith) (omega arith)
                (named_more (a.dim + 16 + 2 * (suc k)) (a.dim + 16 + 2 * (suc k + length es)) (a.dim + 16 + 2 * k + 1 + 1) (a.dim + 16 + 2 * (k + suc (length es))) (loop_lines (loops_from a s p (suc k) es)) (omega arith) (omega arith) ih))
            by false =
                named_more (a.dim + 16 + 2 * k + 1) (a.dim + 16 + 2 * (k + suc (length es))) (a.dim + 16 + 2 * k) (a.dim + 16 + 2 * (k + suc (length es))) _ (omega arith) (omega arith)
                (named_first (a.dim + 16 + 2 * k + 1) (a.dim + 16 + 2 * (k + suc (length es))) _ _ (omega arith) (omega arith)
                (named_more (a.dim + 16 + 2 * (suc k)) (a.dim + 16 + 2 * (suc k + length es)) (a.dim + 16 + 2 * k + 1 + 1) (a.dim + 16 + 2 * (k + suc (length es))) (loop_lines (loops_from a s p (suc k) es)) (omega arith) (omega arith) ih))

        skip : Named (a.dim + 16 + 2 * (suc k)) (a.dim + 16 + 2 * (suc k + length es)) (loop_lines (loops_from a s p (suc k) es))
            → Named (a.dim + 16 + 2 * k) (a.dim + 16 + 2 * (k + suc (length es))) (loop_lines (loops_from a s p (suc k) es))
        skip ih = named_more (a.dim + 16 + 2 * (suc k)) (a.dim + 16 + 2 * (suc k + length es)) (a.dim + 16 + 2 * k) (a.dim + 16 + 2 * (k + suc (length es))) (loop_lines (loops_from a s p (suc k) es)) (omega arith) (omega arith) ih

        go : (kd : Kind) → Named (a.dim + 16 + 2 * (suc k)) (a.dim + 16 + 2 * (suc k + length es)) (loop_lines (loops_from a s p (suc k) es))
            → Named (a.dim + 16 + 2 * k) (a.dim + 16 + 2 * (k + suc (length es))) (loop_lines (with_loop (level_place a s p k e kd) (loops_from a s p (suc k) es)))
        go kinds.Full ih = skip ih
        go kinds.Compressed ih = nodes ih
        go kinds.Listed ih = nodes ih
        go kinds.Slot ih = skip ih

-- ---- all parts

module _ (s : Shape) where
  -- the extents of a part, and its levels
  first_named : (a : PartStart) (p : Part) (o : Opening) (n : ℕ) → IsOpeningOf a s p o → length p.queries ≤ 16 → Named a.dim (a.dim + 16) (extent_lines o.extents.items n)
  first_named a p o n of few =
      subst (λ (es : List Extent). Named a.dim (a.dim + 16) (extent_lines es n)) (sym of.extents)
      (named_more (a.dim + 0) (a.dim + 0 + length p.queries) a.dim (a.dim + 16) (extent_lines (extents_from a.source (tables_from a (extent_count p) 0 p.queries)) n) (omega arith) (omega (arith, few))
      (extents_named a (extent_count p) 0 a.source n p.queries))

  rest_named : (a : PartStart) (p : Part) (o : Opening) → IsOpeningOf a s p o → Named (a.dim + 16) (a.dim + 16 + 2 * length p.levels) (loop_lines o.loops.items)
  rest_named a p o of =
      subst (λ (ls : List Loop). Named (a.dim + 16) (a.dim + 16 + 2 * length p.levels) (loop_lines ls)) (sym of.loops)
      (named_more (a.dim + 16 + 2 * 0) (a.dim + 16 + 2 * (0 + length p.levels)) (a.dim + 16) (a.dim + 16 + 2 * length p.levels) (loop_lines (loops_from a s p 0 p.levels)) (omega arith) (omega arith)
      (level_named a s p 0 p.levels))

  abbrev Few : List Part → Type 0
  Few ps = All (λ (p : Part). length p.queries ≤ 16) ps

  few_rest : (p : Part) (ps : List Part) → Few (p ∷ ps) → Few ps
  few_rest p ps h = λ i d l. h (suc i) d (omega (arith, l))

  few_first : (p : Part) (ps : List Part) → Few (p ∷ ps) → length p.queries ≤ 16
  few_first p ps h = h 0 p (omega arith)

  parts_outside : (a : PartStart) (ps : List Part) (os : List Opening) (n lo hi : ℕ) (last : LineTree) → AreOpeningsOf a s ps os → Few ps → hi ≤ a.dim → (name_of last < lo) ⊎ (hi ≤ name_of last) → Outside lo hi (opening_lines os n last)
  parts_outside a [] [] n lo hi last are few le out = (out, tt)
  parts_outside a [] (o ∷ os) n lo hi last are few le out = absurd are
  parts_outside a (p ∷ ps) [] n lo hi last are few le out = absurd are
  parts_outside a (p ∷ ps) (o ∷ os) n lo hi last are few le out =
      let X = extent_lines o.extents.items n in
      let L = loop_lines o.loops.items in
      let M = opening_lines os (counter o n + 3) last in
      outside_both lo hi X (L ++ M) (outside_behind lo hi a.dim (a.dim + 16) X le (first_named a p o n are.0 (few_first p ps few)).within)
      (outside_both lo hi L M (outside_behind lo hi (a.dim + 16) (a.dim + 16 + 2 * length p.levels) L (omega (arith, le)) (rest_named a p o are.0).within)
      (parts_outside (next_start a p) ps os (counter o n + 3) lo hi last are.1 (few_rest p ps few) (omega (arith, le)) out))

  -- the dims of all parts, and a last one outside them
  parts_new : (a : PartStart) (ps : List Part) (os : List Opening) (n low : ℕ) (last : LineTree) → AreOpeningsOf a s ps os → Few ps → low ≤ a.dim → low ≤ name_of last
      → (name_of last < a.dim) ⊎ (a.dim + dim_count ps ≤ name_of last) → AreNew low (opening_lines os n last)
  parts_new a [] [] n low last are few la lc out = (lc, tt, tt)
  parts_new a [] (o ∷ os) n low last are few la lc out = absurd are
  parts_new a (p ∷ ps) [] n low last are few la lc out = absurd are
  parts_new a (p ∷ ps) (o ∷ os) n low last are few la lc out =
      let X = extent_lines o.extents.items n in
      let L = loop_lines o.loops.items in
      let M = opening_lines os (counter o n + 3) last in
      let x = first_named a p o n are.0 (few_first p ps few) in
      let l = rest_named a p o are.0 in
      let end = a.dim + 16 + 2 * length p.levels in
      let m : AreNew low M = parts_new (next_start a p) ps os (counter o n + 3) low last are.1 (few_rest p ps few) (omega (arith, la)) lc (behind out) in
      let far : Outside a.dim (a.dim + 16) M = parts_outside (next_start a p) ps os (counter o n + 3) a.dim (a.dim + 16) last are.1 (few_rest p ps few) (omega arith) (one out) in
      let near : Outside (a.dim + 16) end M = parts_outside (next_start a p) ps os (counter o n + 3) (a.dim + 16) end last are.1 (few_rest p ps few) (omega arith) (two out) in
      let lm : AreNew low (L ++ M) = new_apart low (a.dim + 16) end L M (new_lower (a.dim + 16) low L (omega (arith, la)) l.new) m l.within near in
      new_apart low a.dim (a.dim + 16) X (L ++ M) (new_lower a.dim low X la x.new) lm x.within
      (outside_both a.dim (a.dim + 16) L M (outside_behind a.dim (a.dim + 16) (a.dim + 16) end L (omega arith) l.within) far)
    where
      behind : (name_of last < a.dim) ⊎ (a.dim + dim_count (p ∷ ps) ≤ name_of last) → (name_of last < (next_start a p).dim) ⊎ ((next_start a p).dim + dim_count ps ≤ name_of last)
      behind (inl h) = inl (omega (arith, h))
      behind (inr h) = inr (omega (arith, h))

      one : (name_of last < a.dim) ⊎ (a.dim + dim_count (p ∷ ps) ≤ name_of last) → (name_of last < a.dim) ⊎ (a.dim + 16 ≤ name_of last)
      one (inl h) = inl h
      one (inr h) = inr (omega (arith, h))

      two : (name_of last < a.dim) ⊎ (a.dim + dim_count (p ∷ ps) ≤ name_of last) → (name_of last < a.dim + 16) ⊎ (a.dim + 16 + 2 * length p.levels ≤ name_of last)
      two (inl h) = inl (omega (arith, h))
      two (inr h) = inr (omega (arith, h))

all_dims : (env : Env) (a : PartStart) (s : Shape) (xs : List (Part × List Entry)) (os : List Opening) → AreOpeningsOf a s (map (λ x. x.0) xs) os → All (λ x. ArePacksLawful x.0) xs
    → HoldParts env a.source s xs → DimsAre env os → HaveDims env a s xs
all_dims env a s [] [] are lawful held dims = tt
all_dims env a s [] (o ∷ os) are lawful held dims = absurd are
all_dims env a s (x ∷ xs) [] are lawful held dims = absurd are
all_dims env a s (x ∷ xs) (o ∷ os) are lawful held dims = (
  opening_tells.dims env a s x.0 x.1 o are.0 (lawful 0 x (omega arith)) held.0 dims.0 dims.1,
  all_dims env (next_start a x.0) s xs os are.1 (λ i d l. lawful (suc i) d (omega (arith, l))) held.1 dims.2,
)

all_forms : (g : Context) (a : PartStart) (s : Shape) (ps : List Part) (os : List Opening) → AreOpeningsOf a s ps os → DimsSeen g os → SeeDims g a ps
all_forms g a s [] [] are seen = tt
all_forms g a s [] (o ∷ os) are seen = absurd are
all_forms g a s (p ∷ ps) [] are seen = absurd are
all_forms g a s (p ∷ ps) (o ∷ os) are seen = (opening_tells.forms g a s p o are.0 seen.0 seen.1, all_forms g (next_start a p) s ps os are.1 seen.2)

pub openings_tell : OpeningsTell
openings_tell = record {
  dims = all_dims;
  forms = all_forms;
  new = λ a s ps os count n low are few la lc out. parts_new s a ps os n low (plain.Of count (total_term os n)) are few la lc out;
}
