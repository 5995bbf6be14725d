-- The block on the rows of a part, packs included.
use Rattle.std.specs.List.Sorted.{IsPermutation}
use Rattle.std.proofs.Common.{◌≡◌, ℕ, suc, ◌+◌, ◌<◌, ◌⊎◌, List, [], ◌∷◌, ◌++◌, map, length, Bool, true, false, not, cond, sym, refl, ap, ap₂, ◌∙◌, inl, inr, subst, arith, ℤ, pos}
use Rattle.std.specs.Prelude.{slice_index_or}
use Rattle.std.specs.List.{sum_by, list_any}
use Rattle.std.proofs.lemmas.Bool.{or_left, or_right}
use Rattle.std.proofs.lemmas.List.{map-append}
use Rattle.us_code.specs.Run.{State, value}
use Rattle.us_code_laws.proofs.Does.{do_weaker}
use Rattle.us_expr.specs.Tree.{Tree}
use Rattle.us_format.specs.declared.Kind.{Kind}
use Rattle.us_format.specs.declared.Kind.TheVariants as kind
use Rattle.us_format.specs.Queries.{extents_of}
use Rattle.us_format.specs.Kinds.{Level, levels_from}
use Rattle.us_format.specs.Kinds.{kind as kind_at}
use Rattle.us_format.specs.Matrix.{Shape, Entry, IsMatrixOf}
use Rattle.us_format.specs.Declaration.{Column, LevelColumn, ValueColumn, Part, same_column}
use Rattle.us_format.specs.Positions.{Row, rows_of}
use Rattle.us_format.specs.Packs as packs
use Rattle.us_format.specs.Packs.{Piece, PosOf, CellsOf, level_pieces, pieces, pieces_from, own_pieces, is_packed, in_pack, same_piece, interleaved, written}
use Rattle.us_format.specs.Buffers.{level_buffers, piece_buffers}
use Rattle.us_format.specs.Rules.{IsLawful, ArePacksLawful, is_piece}
use Rattle.us_format.proofs.Order.{Mem}
use Rattle.us_format.proofs.Members.{all-Mem, Mem-either}
use Rattle.us_format.proofs.Lookup.{not-true}
use Rattle.us_format.proofs.Climb.{cell-written, length-written}
use Rattle.us_format.proofs.Packs.{same-map}
use Rattle.us_format.proofs.PartLaw.{map-map}
use Rattle.us_format.proofs.Pieces.{Mem-any, same_piece-true, same_piece-self, same_column-true, same_column-self, column-piece}
use Rattle.us_format.proofs.Shuffled.{Mem-of_filter, shuffled-level_buffers}
use Rattle.us_format_loops.specs.Laws.{levels_on}
use Rattle.us_format_loops.specs.Nodes.{are_slots}
use Rattle.us_build.proofs.Counts.{Mem-at}
use Rattle.us_running.proofs.Running.{written_cong}
use Rattle.us_gen_build.specs.Levels.{LevelTree}
use Rattle.us_gen_build.specs.Turns.{Turns, names_end}
use Rattle.us_gen_build.specs.Loops.{at_top}
use Rattle.us_gen_build.specs.Blocks.{AllBuilt}
use Rattle.us_gen_build_laws.specs.Rows.{row}
use Rattle.us_gen_build_laws.specs.Ready.{AreSorted}
use Rattle.us_gen_build_laws.specs.Built.{Lists}
use Rattle.us_gen_build_laws.proofs.Part.{sorted-ready, at-top, placed-top, slots-top, pieces-built}
use Rattle.us_build_loops.specs.Laws.{TakeRows}
use Rattle.us_build_loops.proofs.AllLevels.{all-close, all_taken, length_of, loop-cost, end-costs}
use Rattle.us_gen_packs.specs.Packs.{PackTree, width, packed_block}
use Rattle.us_gen_packs.specs.Turns.{last_at, column, Interleaves, PackAfter, PacksNeed, PacksAfter, column_after}
use Rattle.us_gen_packs.specs.Blocks.{PackedBuilt}
use Rattle.us_gen_packs.proofs.Building.{packed_blocks_build}
use Rattle.us_pack_loops.specs.Names.{name_in, part_names, level_at, CoverLevels, KeepColumns}
use Rattle.us_pack_loops.specs.Standing.{entry_number, levels_behind, count_behind, PackStandsFor, AllPacksStand}
use Rattle.us_pack_loops.specs.Laws.{PackedNeedsAreMet, PartsBuilt, PackedBlocksBuildParts}
use Rattle.us_pack_loops.proofs.Entries.{entries_in, entries-cell, entries-long}
use Rattle.us_pack_loops.proofs.Mixed.{all_lists_of, values_of, all-taken, all-built}
use Rattle.us_pack_loops.proofs.Columns.{last-below, packed-coordinates, packed-values, own-starts, own-coordinates, own-values}
use Rattle.us_pack_loops.proofs.Pieces.{piece_list, its, piece-is}
use Rattle.us_pack_loops.proofs.Packing.{pack-is}

-- ---- needs

packs-need : (T : Turns) (hi : ℕ) (ws : List PackTree) (cs : List (List Column)) (all : List Level) (top : List Row) (n : ℕ) (at : ℕ → ℕ) → ((x : ℕ) → x < T.count → at x < n) → AllPacksStand T hi ws cs all n top at → PacksNeed T hi ws at
packs-need T hi [] cs all top n at below h = tt
packs-need T hi (w ∷ ws) (c ∷ cs) all top n at below h = (
  h.0,
  record {
    room = h.1.room;
    reads = h.1.reads;
    factor = h.1.factor;
    within = λ x lt. subst (λ (v : ℕ). at x < v) (sym h.1.positions) (below x lt);
    is_rank = h.1.rank;
  },
  packs-need T (w.first + 1) ws cs all top n at below h.2,
)
packs-need T hi (w ∷ ws) [] all top n at below h = absurd h

pub packed_needs_are_met : PackedNeedsAreMet
packed_needs_are_met T lo hi ls ks n rows at ws cs h f all top st = packs-need T hi ws cs all top (count_behind ks n rows) (last_at T ls at) (last-below T lo ls ks n rows at h f) st

-- ---- a part

-- how many levels there are
lists-long : (T : Turns) (u : State) (ls : List LevelTree) (ks : List Level) (n : ℕ) (rows : List Row) (at : ℕ → ℕ) → CoverLevels ls ks → length (all_lists_of T u ls ks n rows at) ≡ length ks
lists-long T u (l ∷ ls) (k ∷ ks) n rows at f = ap suc (lists-long T u ls ks _ _ _ f.1)
lists-long T u (l ∷ ls) [] n rows at f = refl
lists-long T u [] [] n rows at f = refl
lists-long T u [] (k ∷ ks) n rows at f = absurd f

levels-long : (s : Shape) (extents : List ℕ) (p : Part) (k : ℕ) (es : List Tree) → length (levels_from s extents p k es) ≡ length es
levels-long s extents p k [] = refl
levels-long s extents p k (e ∷ es) = ap suc (levels-long s extents p (suc k) es)

-- a piece is of a level that there is
abbrev IsBelow : ℕ → Piece → Type 0
IsBelow n (PosOf k) = k < n
IsBelow n (CellsOf (LevelColumn k)) = k < n
IsBelow n (CellsOf ValueColumn) = Unit {0}

pieces-below : (p : Part) (k : ℕ) (es : List Tree) (x : Piece) → Mem x (pieces_from p k es) → IsBelow (k + length es) x
pieces-below p k [] x (inl e) = subst (IsBelow (k + 0)) e tt
pieces-below p k [] x (inr h) = absurd h
pieces-below p k (e ∷ es) x h = go (λ m. pieces-below p (suc k) es x m) (Mem-either x (level_pieces k (kind_at p k)) (pieces_from p (suc k) es) h)
  where
    below : k < k + length (e ∷ es)
    below = omega arith

    here : (z : Kind) → Mem x (level_pieces k z) → IsBelow (k + length (e ∷ es)) x
    here kind.Full m = absurd m
    here kind.Compressed (inl q) = subst (IsBelow (k + length (e ∷ es))) q below
    here kind.Compressed (inr (inl q)) = subst (IsBelow (k + length (e ∷ es))) q below
    here kind.Compressed (inr (inr m)) = absurd m
    here kind.Listed (inl q) = subst (IsBelow (k + length (e ∷ es))) q below
    here kind.Listed (inr (inl q)) = subst (IsBelow (k + length (e ∷ es))) q below
    here kind.Listed (inr (inr m)) = absurd m
    here kind.Slot (inl q) = subst (IsBelow (k + length (e ∷ es))) q below
    here kind.Slot (inr m) = absurd m

    go : (Mem x (pieces_from p (suc k) es) → IsBelow (suc k + length es) x) → Mem x (level_pieces k (kind_at p k)) ⊎ Mem x (pieces_from p (suc k) es) → IsBelow (k + length (e ∷ es)) x
    go rest (inl m) = here (kind_at p k) m
    go rest (inr m) = subst (λ (n : ℕ). IsBelow n x) (omega arith) (rest m)

any-of : {A : Type 0} (t : A → Bool) (xs : List A) (x : A) → Mem x xs → t x ≡ true → list_any t xs ≡ true
any-of t [] x m e = absurd m
any-of t (y ∷ ys) x (inl q) e = or_left _ _ (ap t q ∙ e)
any-of t (y ∷ ys) x (inr m) e = or_right _ _ (any-of t ys x m e)

module _ (s : Shape) (p : Part) (m : List Entry) (rows : List Row) (la : IsLawful p) (lp : ArePacksLawful p) (im : IsMatrixOf s m) (perm : IsPermutation (rows_of m s p) rows) (o : AreSorted (levels_on s p m) rows) (T : Turns) (ls : List LevelTree) (u : State)
    (h : TakeRows T T.base ls (levels_on s p m) 1 rows at_top) (f : CoverLevels ls (levels_on s p m)) (keep : KeepColumns p ls) (built : AllBuilt T ls at_top u) where
  abbrev ks : List Level
  ks = levels_on s p m

  abbrev last : ℕ → ℕ
  last = last_at T ls at_top

  abbrev end : ℕ
  end = count_behind (levels_on s p m) 1 rows

  abbrev lists : List Lists
  lists = all_lists_of T u ls (levels_on s p m) 1 rows at_top

  abbrev values : List ℤ
  values = values_of T u ls (levels_on s p m) 1 rows at_top

  levels-many : length ks ≡ length p.levels
  levels-many = levels-long s (extents_of m s p) p 0 p.levels

  list-is : (x : Piece) → Mem x (pieces p) → piece_list lists values x ≡ written (its s p m x)
  list-is =
      piece-is s p m lists values (lists-long T u ls ks 1 rows at_top f ∙ levels-many)
      (pieces-built s p m rows la im perm o (all_taken T ls ks) lists values (all-taken T T.base ls ks 1 rows at_top h f) (all-built T T.base ls ks 1 rows at_top u h f built))

  in-levels : (k : ℕ) → k < 0 + length p.levels → k < length ks
  in-levels k lt = omega (arith, lt, levels-many)

  piece-there : (c : Column) → Mem (CellsOf c) (pieces p) → is_piece p c ≡ true
  piece-there c mc = Mem-any same_piece same_piece-true same_piece-self (CellsOf c) (pieces p) mc

  -- ---- buffers of their own

  own-list : (x : Piece) → Mem x (pieces p) → is_packed p x ≡ false → u.bufs (name_in ls (length p.levels) x) ≡ piece_list lists values x
  own-list (PosOf k) mx e = sym (own-starts T u ls ks 1 rows at_top k f (in-levels k (pieces-below p 0 p.levels (PosOf k) mx)))
  own-list (CellsOf (LevelColumn k)) mx e =
      sym (own-coordinates T u ls ks 1 rows at_top k f (in-levels k (pieces-below p 0 p.levels (CellsOf (LevelColumn k)) mx)) (keep.coordinates k (piece-there (LevelColumn k) mx) ∙ ap not e))
  own-list (CellsOf ValueColumn) mx e =
      let one_more : length ls ≡ length p.levels + 1 = keep.values ∙ ap (λ (b : Bool). cond b (length p.levels) (length p.levels + 1)) e in
      ap (λ (n : ℕ). u.bufs ((level_at ls n).first + 1)) (sym levels-many) ∙ sym (own-values T u ls ks 1 rows at_top f (omega (arith, one_more, levels-many)))

  own-all : map u.bufs (map (name_in ls (length p.levels)) (own_pieces p)) ≡ map written (map (its s p m) (own_pieces p))
  own-all =
      map-map u.bufs (name_in ls (length p.levels)) (own_pieces p)
      ∙ (same-map (λ x. u.bufs (name_in ls (length p.levels) x)) (λ x. written (its s p m x)) (own_pieces p)
      (λ x mx. let g = Mem-of_filter (λ y. not (is_packed p y)) x (pieces p) mx in own-list x g.0 (not-true (is_packed p x) g.1) ∙ list-is x g.0)
      ∙ sym (map-map written (its s p m) (own_pieces p)))

  -- ---- packs

  column-list : (c : Column) → Mem (CellsOf c) (pieces p) → is_packed p (CellsOf c) ≡ true → are_slots (levels_behind ks c) ≡ true → piece_list lists values (CellsOf c) ≡ entries_in T.count last (λ x. entry_number (row rows x) c) end
  column-list (LevelColumn k) mx e slots =
      packed-coordinates T u T.base ls ks 1 rows at_top k h f (in-levels k (pieces-below p 0 p.levels (CellsOf (LevelColumn k)) mx)) (keep.coordinates k (piece-there (LevelColumn k) mx) ∙ ap not e) slots
  column-list ValueColumn mx e slots =
      packed-values T u T.base ls ks 1 rows at_top h f (keep.values ∙ (ap (λ (b : Bool). cond b (length p.levels) (length p.levels + 1)) e ∙ sym levels-many))

  module _ (pack : List Column) (w : PackTree) (mp : Mem pack p.packs) (st : PackStandsFor T w pack ks end rows last) (i : PackAfter T w last T.count u) where
    column-is : (c : Column) → Mem c pack → written (its s p m (CellsOf c)) ≡ entries_in T.count last (λ x. entry_number (row rows x) c) end
    column-is c mc =
        let there = column-piece p lp c pack mc mp in
        let packed = any-of (in_pack c) p.packs pack mp (Mem-any same_column same_column-true same_column-self c pack mc) in
        sym (list-is (CellsOf c) there) ∙ column-list c there packed (all-Mem (λ d. are_slots (levels_behind ks d) ≡ true) pack c st.slots mc)

    column-long : (c : Column) → Mem c pack → (its s p m (CellsOf c)).len ≡ end
    column-long c mc = sym (length-written (its s p m (CellsOf c))) ∙ (ap length (column-is c mc) ∙ entries-long T.count last (λ x. entry_number (row rows x) c) end)

    column-cell : (y z : ℕ) → y < length pack → z < end → (its s p m (CellsOf (slice_index_or pack y ValueColumn))).cell z ≡ column_after T w last T.count y z
    column-cell y z hy hz =
        let c = slice_index_or pack y ValueColumn in
        let mc : Mem c pack = Mem-at pack y ValueColumn hy in
        sym (cell-written (its s p m (CellsOf c)) z (omega (arith, hz, column-long c mc)))
        ∙ (ap (λ (xs : List ℤ). slice_index_or xs z (pos 0)) (column-is c mc)
        ∙ (entries-cell T.count last (λ x. entry_number (row rows x) c) end z hz
        ∙ written_cong (λ x. true) (λ x. true) last last (λ x. entry_number (row rows x) c) (λ x. value T.env (T.held x) (column w.columns y)) T.count z (λ x g. refl) (λ x g. refl) (λ x g. sym (st.numbers x y g hy))))

    pack-list : u.bufs w.first ≡ written (interleaved (map (λ c. its s p m (CellsOf c)) pack))
    pack-list =
        pack-is end (column_after T w last T.count) (λ c. its s p m (CellsOf c)) pack (u.bufs w.first) (width w) st.columns column-long column-cell
        (subst (λ (n : ℕ). Interleaves (u.bufs w.first) n (width w) (column_after T w last T.count)) st.positions i)

  packs-all : (hi : ℕ) (ws : List PackTree) (cs : List (List Column)) → ((c : List Column) → Mem c cs → Mem c p.packs) → AllPacksStand T hi ws cs ks end rows last → PacksAfter T ws last T.count u
      → map u.bufs (map (λ w. w.first) ws) ≡ map written (map (λ pack. interleaved (map (λ c. its s p m (CellsOf c)) pack)) cs)
  packs-all hi [] [] among st i = refl
  packs-all hi (w ∷ ws) (c ∷ cs) among st i = ap₂ (λ (x : List ℤ) (xs : List (List ℤ)). x ∷ xs) (pack-list c w (among c (inl refl)) st.1 i.0) (packs-all (w.first + 1) ws cs (λ d md. among d (inr md)) st.2 i.1)
  packs-all hi [] (c ∷ cs) among st i = absurd st
  packs-all hi (w ∷ ws) [] among st i = absurd st

  part-lists : (hi : ℕ) (ws : List PackTree) → AllPacksStand T hi ws p.packs ks end rows last → PacksAfter T ws last T.count u → map u.bufs (part_names p ls ws) ≡ map written (packs.packed p (piece_buffers s p m))
  part-lists hi ws st i =
      let names = map (name_in ls (length p.levels)) (own_pieces p) in
      let its_packs = map (λ pack. interleaved (map (λ c. its s p m (CellsOf c)) pack)) p.packs in
      map-append u.bufs names (map (λ w. w.first) ws)
      ∙ (ap₂ (λ (xs ys : List (List ℤ)). xs ++ ys) own-all (packs-all hi ws p.packs (λ c mc. mc) st i)
      ∙ sym (map-append written (map (its s p m) (own_pieces p)) its_packs))

pub packed_blocks_build_parts : PackedBlocksBuildParts
packed_blocks_build_parts s p m rows la lp im perm o T d order cols ls ws place n v entries stand f keep packs_stand w zeros none le =
    do_weaker T.env (packed_block d order cols ls ws T.turn n) v (PackedBuilt T cols ls ws v) (PartsBuilt s p m T cols ls ws v)
    (λ u b. record {
      lists = part-lists s p m rows la lp im perm o T ls u taken f keep b.built (names_end T.base ls) ws packs_stand b.packs;
      bufs = b.bufs;
      steps = omega (
        arith,
        b.steps,
        loop-cost T ls at_top T.count,
        end-costs T T.base ls (levels_on s p m) 1 rows at_top taken,
        ap (sum_by length_of) moved_buffers,
      );
    })
    (packed_blocks_build T d order cols ls ws place n v w zeros (all-close T T.base ls (levels_on s p m) 1 rows at_top taken) need none le)
  where
    taken : TakeRows T T.base ls (levels_on s p m) 1 rows at_top
    taken = record { entries = entries; ready = sorted-ready s p m rows la im perm o; positions = at-top s p m la im rows perm; stand = stand }

    need : PacksNeed T (names_end T.base ls) ws (last_at T ls at_top)
    need = packed_needs_are_met T T.base (names_end T.base ls) ls (levels_on s p m) 1 rows at_top ws p.packs taken f (levels_on s p m) rows packs_stand

    moved_buffers : level_buffers (levels_on s p m) 1 rows ≡ level_buffers (levels_on s p m) 1 (rows_of m s p)
    moved_buffers = shuffled-level_buffers (levels_on s p m) 1 (rows_of m s p) rows perm (placed-top s p m la im) (slots-top s p m la im)
