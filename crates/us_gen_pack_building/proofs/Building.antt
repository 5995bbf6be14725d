-- The second phase builds all buffers, and both phases together.
use Rattle.std.proofs.Common.{◌≡◌, ℕ, zero, suc, ◌+◌, ◌*◌, ◌<◌, ◌≤◌, List, [], ◌∷◌, ◌++◌, map, length, Bool, true, false, not, refl, sym, ap, ◌∙◌, subst, arith, ℤ, Option}
use Rattle.std.specs.List.{list_any}
use Rattle.std.proofs.lemmas.List.{length-map, length-append}
use Rattle.us_code.specs.declared.program.Dim.TheVariants as dim
use Rattle.us_code.specs.Run.{Env, State, size_of}
use Rattle.us_code.specs.Runs.{World, begin, phases}
use Rattle.us_code_laws.specs.Does.{Does}
use Rattle.us_code_laws.proofs.Does.{do_weaker}
use Rattle.us_expr.specs.Tree.{Tree}
use Rattle.us_format.specs.Kinds.{Level, levels_from}
use Rattle.us_format.specs.Kinds.{kind as kind_at}
use Rattle.us_format.specs.Lists.{cell}
use Rattle.us_format.specs.Matrix.{Shape, Entry}
use Rattle.us_format.specs.Queries.{extents_of}
use Rattle.us_format.specs.Declaration.{Column, LevelColumn, ValueColumn, Part}
use Rattle.us_format.specs.Positions.{Row, rows_of}
use Rattle.us_format.specs.Packs.{CellsOf, pieces, in_pack, same_piece}
use Rattle.us_format.specs.Packs.{is_packed as is_in_pack}
use Rattle.us_format.proofs.Pieces.{any-Mem, same_piece-true, same_piece-self}
use Rattle.us_format_loops.specs.Laws.{levels_on}
use Rattle.us_gen.specs.Goes.{after}
use Rattle.us_gen.proofs.Going.{leads_none, leads_both, Body, phase_leads}
use Rattle.us_gen_build.specs.Levels.{LevelTree}
use Rattle.us_gen_build.specs.Turns.{Turns, names_end}
use Rattle.us_gen_build.specs.Loops.{turned, at_top, LoopNeeds}
use Rattle.us_gen_build.specs.Kinds.{NamesRise}
use Rattle.us_gen_build.proofs.LoopRun.{columns_stay, picks_stay}
use Rattle.us_gen_build_laws.specs.Rows.{row}
use Rattle.us_gen_build_laws.proofs.Part.{sorted-ready, at-top}
use Rattle.us_build_loops.specs.Standing.{AllStand}
use Rattle.us_build_loops.specs.Laws.{TakeRows}
use Rattle.us_build_loops.proofs.AllLevels.{all-need}
use Rattle.us_gen_packs.specs.Packs.{PackTree}
use Rattle.us_gen_packs.specs.Turns.{last_at, packs_cost}
use Rattle.us_gen_packs.specs.Kinds.{PackNamesRise}
use Rattle.us_pack_loops.specs.Names.{part_names, level_at, CoverLevels, KeepColumns}
use Rattle.us_pack_loops.specs.Standing.{count_behind, AllPacksStand}
use Rattle.us_pack_loops.specs.Laws.{PartsBuilt}
use Rattle.us_pack_loops.proofs.Whole.{packed_blocks_build_parts}
use Rattle.us_gen_building.specs.declared.part.PartLevel.{PartLevel}
use Rattle.us_gen_building.specs.declared.part.Descent.{Descent}
use Rattle.us_gen_building.specs.Levels.{columns}
use Rattle.us_gen_building.specs.Phases.{order_of, first_column, dims_from, turn_from, built_from, ends_from, all_columns}
use Rattle.us_gen_building.specs.Runs.{levels_of, AreSmall, HaveDims, IsCounted, cells_of}
use Rattle.us_gen_building.proofs.Registers.{turns_of, HoldColumns, loads_hold, ReadRows, rows_read, last_read}
use Rattle.us_gen_building.proofs.Standing.{length_levels}
use Rattle.us_gen_building.proofs.Lines.{leads_looser}
use Rattle.us_gen_building.proofs.Keeping.{small_shuffled, columns_higher, columns_front, keys_stay, column_last, picks_higher}
use Rattle.us_gen_building.proofs.Counting.{stand_lower, base_high, base_low}
use Rattle.us_gen_pack_building.specs.declared.part.PackRun.{PackRun}
use Rattle.us_gen_pack_building.specs.declared.part.PackedLoops.{PackedLoops}
use Rattle.us_gen_pack_building.specs.Levels.{is_packed, bottom, writers, pack_buffers}
use Rattle.us_gen_pack_building.specs.Phases.{level_count, pack_count, packing_top, all_levels, all_packs, cell_counting_phase, packing_phase, packing_phases, packed_buffers}
use Rattle.us_gen_pack_building.specs.Runs.{column_at, columns_of, ArePacksOf, AreCellsCounted, AreAllBuilt, cell_counting_cost, packing_cost, PackingBuilds, PackingsBuild}
use Rattle.us_gen_pack_building.proofs.Columns.{col_level, col_value, packed_same}
use Rattle.us_gen_pack_building.proofs.Standing.{packed_stand, last_rank, packed_cover}
use Rattle.us_gen_pack_building.proofs.Names.{more, packed_long, many_as, stored, writes_at, names_are}
use Rattle.us_gen_pack_building.proofs.Packs.{Known, packs_stand}
use Rattle.us_gen_pack_building.proofs.Making.{packed_rise, packed_end, writers_rise, writers_end, packed_small, writers_small, AllMade, all_lead, packs_lower}
use Rattle.us_gen_pack_building.proofs.Counting.{cells_above, behind_shuffled, packing_counts}
use Rattle.us_gen_pack_building.proofs.Costs.{cost_is, few_packs, few_columns, both_costs}

levels_number : (s : Shape) (extents : List ℕ) (p : Part) (k : ℕ) (es : List Tree) → length (levels_from s extents p k es) ≡ length es
levels_number s extents p k [] = refl
levels_number s extents p k (e ∷ es) = ap suc (levels_number s extents p (suc k) es)

writers_long : (rs : List PackRun) (name register : ℕ) (x : Descent) → length (writers rs name register x) ≡ length rs
writers_long [] name register x = refl
writers_long (r ∷ rs) name register x = ap suc (writers_long rs (name + 1) register x)

writers_number : (x : PackedLoops) (f : ℕ) → length (all_packs x f) ≡ pack_count x
writers_number x f = writers_long x.packs.items (ends_from f (level_count x)) (packing_top x f).register (bottom x.part.count x.part.levels.items (packing_top x f))

times : (d e k : ℕ) → d ≤ e → d * k ≤ e * k
times d e zero le = omega arith
times d e (suc k) le = omega (arith, le, times d e k le)

-- at most as many levels as those of the part and one, and at most as many steps for the packs as there are packs and columns
up_to : (steps before t l n cells each packs : ℕ) → steps ≤ before + 1 + 2 * t + n * (2 + (l + 1)) + t * (7 * n) + (2 * l + 4 * cells) + n * each → t ≤ l + 1 → each ≤ packs + (l + 1)
    → steps ≤ before + (1 + 2 * (l + 1) + n * (2 + (l + 1)) + (l + 1) * (7 * n) + (2 * l + 4 * cells) + n * (packs + (l + 1)))
up_to steps before t l n cells each packs i up few = omega (arith, i, up, times t (l + 1) (7 * n) up, times each (packs + (l + 1)) n few)

module _ (x : PackedLoops) (f : ℕ) (s : Shape) (p : Part) (m : List Entry) (rows : List Row) (w : World) (ac : AreCellsCounted x f s p m rows w) where
  abbrev c : IsCounted x.part f s p m rows w
  c = ac.counted

  abbrev own : ArePacksOf x s p m
  own = ac.packs

  abbrev L : ℕ
  L = level_count x

  abbrev P : ℕ
  P = pack_count x

  abbrev N : ℕ
  N = length rows

  abbrev ls : List PartLevel
  ls = x.part.levels.items

  abbrev rs : List PackRun
  rs = x.packs.items

  abbrev order : Option ℕ
  order = order_of x.part.keys f

  abbrev a : ℕ
  a = turn_from f L

  abbrev lo : ℕ
  lo = built_from f L

  abbrev mid : ℕ
  mid = ends_from f L

  abbrev n : ℕ
  n = ends_from f L + P

  abbrev r : ℕ
  r = first_column order a

  abbrev cols : List ℕ
  cols = all_columns x.part

  abbrev trees : List LevelTree
  trees = all_levels x f

  abbrev ws : List PackTree
  ws = all_packs x f

  abbrev top : Descent
  top = packing_top x f

  abbrev below : Descent
  below = bottom x.part.count ls top

  abbrev ks : List Level
  ks = levels_of w.env ls

  abbrev cells : ℕ
  cells = count_behind (levels_on s p m) 1 (rows_of m s p)

  small : AreSmall ks 1 c.turns
  small = subst (λ (zs : List Level). AreSmall zs 1 c.turns) (sym c.loops.levels) (small_shuffled (levels_on s p m) 1 (rows_of m s p) c.turns c.shuffled c.loops.small)

  dims : HaveDims w.env x.part.count ls ks true (dim.Number 1) (dims_from f L) 1 c.turns
  dims = subst (λ (zs : List Level). HaveDims w.env x.part.count ls zs true (dim.Number 1) (dims_from f L) 1 c.turns) (sym c.loops.levels) c.dims

  rise : NamesRise lo trees mid
  rise = packed_rise x.part.count rs 0 ls top mid (omega arith)

  packs_rise : PackNamesRise mid ws n
  packs_rise = writers_rise rs mid top.register below n (omega arith)

  above : size_of w.env below.above ≡ cells
  above = cells_above x.part f s p m rows w top refl refl refl c

  length_cols : length cols ≡ L + 1
  length_cols = length-append (columns ls) (x.part.values ∷ []) ∙ ap (λ (y : ℕ). y + 1) (length-map ls (λ l. l.column))

  length_trees : length trees ≡ L + more (is_packed rs (0 + L))
  length_trees = packed_long x.part.count rs 0 ls top

  -- ---- columns in packs

  part_levels : length p.levels ≡ L
  part_levels = sym (levels_number s (extents_of m s p) p 0 p.levels) ∙ (sym (ap (λ (zs : List Level). length zs) c.loops.levels) ∙ length_levels w.env ls)

  flag : (k : ℕ) → k ≤ L → list_any (in_pack (column_at L k)) p.packs ≡ is_packed rs k
  flag k le = ap (λ (cs : List (List Column)). list_any (in_pack (column_at L k)) cs) (sym own.packs) ∙ packed_same L k rs le own.runs

  level_flag : (k : ℕ) → k < length p.levels → is_in_pack p (CellsOf (LevelColumn k)) ≡ is_packed rs k
  level_flag k lt = ap (λ (d : Column). list_any (in_pack d) p.packs) (sym (col_level L k (omega (arith, lt, part_levels)))) ∙ flag k (omega (arith, lt, part_levels))

  value_flag : is_in_pack p (CellsOf ValueColumn) ≡ is_packed rs (length p.levels)
  value_flag =
      ap (λ (d : Column). list_any (in_pack d) p.packs) (sym (col_value L (length p.levels) (omega (arith, part_levels))))
      ∙ flag (length p.levels) (omega (arith, part_levels))

  -- ---- which buffers keep what

  names : part_names p trees ws ≡ packed_buffers x f
  names =
      ap (λ (xs : List ℕ). xs ++ pack_buffers ws)
      (names_are s (extents_of m s p) p rs (length p.levels) trees value_flag level_flag w.env x.part.count 0 0 ls p.levels top refl (omega arith) c.loops.levels own.last
      (λ j. ap (level_at trees) (omega arith)))

  keep : KeepColumns p trees
  keep = record {
    coordinates = λ k h.
        let st = stored s (extents_of m s p) p (length p.levels) 0 p.levels (CellsOf (LevelColumn k)) (omega arith) (any-Mem same_piece same_piece-true same_piece-self (CellsOf (LevelColumn k)) (pieces p) h) in
        let z : 0 + k ≡ k = omega arith in
        writes_at s (extents_of m s p) p w.env x.part.count rs 0 0 ls p.levels top k refl c.loops.levels own.last (omega (arith, st.0, part_levels)) (λ q. st.1 (ap (kind_at p) (sym z) ∙ q))
        ∙ (ap (λ (j : ℕ). not (is_packed rs j)) z ∙ ap not (sym (level_flag k st.0)));
    values =
        length_trees
        ∙ (ap (λ (j : ℕ). L + more (is_packed rs j)) (omega (arith, part_levels))
        ∙ (ap (λ (j : ℕ). j + more (is_packed rs (length p.levels))) (sym part_levels)
        ∙ (ap (λ (b : Bool). length p.levels + more b) (sym value_flag) ∙ many_as (is_in_pack p (CellsOf ValueColumn)) (length p.levels))));
  }

  module _ (u : World) (h : AllMade lo trees ws w u) where
    abbrev z : State
    z = begin u

    low : (b : ℕ) → b < f + 1 → z.bufs b ≡ w.bufs b
    low b lt = h.bufs b (omega (arith, lt))

    abbrev T : Turns
    T = turns_of w.env N a order cols c.place z

    held : HoldColumns T.held z.bufs c.place r cols
    held = loads_hold z.bufs c.place cols r (λ y. turned order z.regs a y (c.place y))

    reads : ReadRows T.held T.base N r ls (λ y. (row c.turns y).rest)
    reads =
        rows_read T.held T.base N z.bufs c.place ls (x.part.values ∷ []) r (λ y. (row rows y).rest) (λ y. (row c.turns y).rest) c.within (λ y lt. ap (λ (q : Row). q.rest) (c.turn y lt)) (omega (arith, length_cols)) held
        (keys_stay f N N w.bufs z.bufs (columns ls) (λ y. (row rows y).rest) (columns_front f N w.bufs (columns ls) (x.part.values ∷ []) c.hold.long) (λ b lt. low b (omega (arith, lt))) c.hold.coordinates)

    low_values : x.part.values < f
    low_values = column_last f N w.bufs (columns ls) x.part.values c.hold.long

    reads_value : (y : ℕ) → y < N → T.held y (r + L) ≡ (row c.turns y).value
    reads_value y lt =
        last_read T.held z.bufs c.place ls x.part.values [] r held y
        ∙ (ap (λ (xs : List ℤ). cell xs (c.place y)) (low x.part.values (omega (arith, low_values))) ∙ (c.hold.values (c.place y) (c.within y lt) ∙ ap (λ (q : Row). q.value) (sym (c.turn y lt))))

    base : T.base ≤ lo
    base = omega (arith, base_high order cols a, length_cols)

    room : f + 1 ≤ T.base
    room = omega (arith, base_low order cols a)

    stand : AllStand T T.base trees (levels_on s p m) 1 c.turns at_top
    stand =
        subst (λ (zs : List Level). AllStand T T.base trees zs 1 c.turns at_top) c.loops.levels
        (stand_lower T lo T.base trees ks 1 c.turns at_top base
        (packed_stand T record { coord = λ l y. refl; wide = λ l. refl } x.part.count rs 0 ls top 1 c.turns at_top (λ y. (row c.turns y).rest) (λ y. (row c.turns y).value) record {
          room = base;
          entries = c.number;
          reads = reads;
          end = omega (arith, length_cols);
          reads_value = reads_value;
          rest_is = λ y lt. refl;
          value_is = λ y lt. refl;
          dims = dims;
          small = small;
          ranked = λ e. absurd cc;
          top = λ e. refl;
        }))

    takes : TakeRows T T.base trees (levels_on s p m) 1 c.turns at_top
    takes = record {
      entries = c.number;
      ready = sorted-ready s p m c.turns c.loops.lawful c.loops.matrix c.shuffled c.sorted;
      positions = at-top s p m c.loops.lawful c.loops.matrix c.turns c.shuffled;
      stand = stand;
    }

    needs : LoopNeeds T (dim.Name x.part.count) order cols trees c.place z
    needs = record {
      count = sym c.hold.count;
      base = refl;
      held = λ y q lt g. refl;
      few = omega (arith, c.loops.few);
      picks = picks_higher order (f + 1) T.base N z.bufs c.place room (picks_stay order (f + 1) N w.bufs z.bufs c.place low c.picks);
      within = c.within;
      columns = columns_higher f T.base N z.bufs cols (omega (arith, room)) (columns_stay f N w.bufs z.bufs cols (λ b lt. low b (omega (arith, lt))) c.hold.long);
      need = all-need T T.base trees (levels_on s p m) 1 c.turns at_top takes;
    }

    cover : CoverLevels trees (levels_on s p m)
    cover = subst (λ (zs : List Level). CoverLevels trees zs) c.loops.levels (packed_cover w.env x.part.count rs 0 ls top)

    ends : names_end T.base trees ≤ mid
    ends = packed_end x.part.count rs 0 ls top T.base mid (omega (arith, base)) (omega arith)

    known : Known T ls rs r below (count_behind (levels_on s p m) 1 c.turns) c.turns (last_at T trees at_top)
    known = record {
      reads = reads;
      reads_value = reads_value;
      end = omega (arith, length_cols);
      last = own.last;
      positions = above ∙ sym (behind_shuffled (levels_on s p m) 1 (rows_of m s p) c.turns c.shuffled);
      rank = λ e y lt. last_rank T x.part.count rs 0 ls top at_top (λ q. absurd cc) e y lt;
    }

    packs_there : AllPacksStand T (names_end T.base trees) ws p.packs (levels_on s p m) (count_behind (levels_on s p m) 1 c.turns) c.turns (last_at T trees at_top)
    packs_there =
        subst (λ (zs : List Level). AllPacksStand T (names_end T.base trees) ws p.packs zs (count_behind (levels_on s p m) 1 c.turns) c.turns (last_at T trees at_top)) c.loops.levels
        (subst (λ (cs : List (List Column)). AllPacksStand T (names_end T.base trees) ws cs ks (count_behind (levels_on s p m) 1 c.turns) c.turns (last_at T trees at_top)) own.packs
        (packs_lower T rs mid r below (map (columns_of L) rs) ks (count_behind (levels_on s p m) 1 c.turns) c.turns (last_at T trees at_top) (names_end T.base trees) ends
        (packs_stand T ls rs r below (count_behind (levels_on s p m) 1 c.turns) c.turns (last_at T trees at_top) known rs mid (omega (arith, base)) own.runs (λ k e. e) ac.cells)))

    abbrev cost : ℕ
    cost = 1 + 2 * (L + 1) + N * (2 + (L + 1)) + (L + 1) * (7 * N) + (2 * L + 4 * cells_of s p m) + N * (P + (L + 1))

    many : length (levels_on s p m) ≡ L
    many = sym (ap (λ (zs : List Level). length zs) c.loops.levels) ∙ length_levels w.env ls

    steps : (v : State) → PartsBuilt s p m T cols trees ws z v → v.steps ≤ u.steps + cost
    steps v b =
        let t : ℕ = length trees in
        let up : t ≤ L + 1 = omega (arith, length_trees, more_le (is_packed rs (0 + L))) in
        let i : v.steps ≤ z.steps + 1 + 2 * t + N * (2 + (L + 1)) + t * (7 * N) + (2 * L + 4 * cells_of s p m) + N * packs_cost ws =
        subst (λ (q : ℕ). v.steps ≤ z.steps + 1 + 2 * t + N * (2 + q) + t * (7 * N) + (2 * L + 4 * cells_of s p m) + N * packs_cost ws) length_cols
        (subst (λ (q : ℕ). v.steps ≤ z.steps + 1 + 2 * t + N * (2 + length cols) + t * (7 * N) + (2 * q + 4 * cells_of s p m) + N * packs_cost ws) many b.steps) in
        let packs_few : packs_cost ws ≤ P + (L + 1) = omega (arith, cost_is rs mid r below, few_columns (L + 1) rs own.runs own.apart) in
        up_to v.steps z.steps t L N (cells_of s p m) (packs_cost ws) P i up packs_few
      where
        more_le : (b : Bool) → more b ≤ 1
        more_le true = omega arith
        more_le false = omega arith

    builds : Does u.env (packing_phase x f).body z (Body (f + 1) cost 0 [] (AreAllBuilt x f s p m) u)
    builds =
        subst (λ (env : Env). Does env (packing_phase x f).body z (Body (f + 1) cost 0 [] (AreAllBuilt x f s p m) u)) (sym h.env)
        (do_weaker w.env (packing_phase x f).body z _ _
        (λ v b. record {
          steps = steps v b;
          bufs = λ i lt. b.bufs i (λ q. absurd (omega (arith, q, lt, room)));
          then = leads_none (f + 1) (after u v) (AreAllBuilt x f s p m) (ap (λ (xs : List ℕ). map v.bufs xs) (sym names) ∙ b.lists);
        })
        (packed_blocks_build_parts s p m c.turns c.loops.lawful own.lawful c.loops.matrix c.shuffled c.sorted T (dim.Name x.part.count) order cols trees ws c.place n z c.number stand cover keep packs_there needs h.zero h.packs
        (omega (arith, writers_end rs mid r below (names_end T.base trees) ends))))

pub packing_builds : PackingBuilds
packing_builds x f s p m rows w ac =
    let L : ℕ = level_count x in
    let P : ℕ = pack_count x in
    let N : ℕ = length rows in
    let t : ℕ = length (all_levels x f) in
    let cost : ℕ = 1 + 2 * (L + 1) + N * (2 + (L + 1)) + (L + 1) * (7 * N) + (2 * L + 4 * cells_of s p m) + N * (P + (L + 1)) in
    leads_looser (f + 1) (f + 1) (2 * t + length (all_packs x f) + cost + 0) (packing_cost L P N (cells_of s p m)) w (phases (packing_phase x f ∷ []) w) (AreAllBuilt x f s p m) (omega arith)
    (omega (arith, length_trees x f s p m rows w ac, few_more (is_packed x.packs.items (0 + L)), writers_number x f))
    (phase_leads (f + 1) (2 * t + length (all_packs x f)) cost 0 (packing_phase x f) w (AllMade (built_from f L) (all_levels x f) (all_packs x f) w) (AreAllBuilt x f s p m)
    (all_lead (all_levels x f) (all_packs x f) (f + 1) (built_from f L) (ends_from f L) (ends_from f L + P) w (omega arith) (rise x f s p m rows w ac) (packs_rise x f s p m rows w ac) (omega arith)
    (packed_small w.env x.part.count x.packs.items 0 x.part.levels.items (packing_top x f) 1 ac.counted.turns (dims x f s p m rows w ac) (small x f s p m rows w ac))
    (writers_small w.env x.packs.items (ends_from f L) (packing_top x f).register (bottom x.part.count x.part.levels.items (packing_top x f)) (count_behind (levels_on s p m) 1 (rows_of m s p)) (above x f s p m rows w ac) ac.packs.small ac.cells))
    (λ u h k. builds x f s p m rows w ac u h))
  where
    few_more : (b : Bool) → more b ≤ 1
    few_more true = omega arith
    few_more false = omega arith

-- ---- both phases

pub packings_build : PackingsBuild
packings_build x f s p m rows w b =
    let L : ℕ = level_count x in
    let P : ℕ = pack_count x in
    let N : ℕ = length rows in
    let few : P ≤ L + 1 = omega (arith, few_packs (L + 1) x.packs.items b.packs.runs, few_columns (L + 1) x.packs.items b.packs.runs b.packs.apart) in
    leads_looser f f (cell_counting_cost L P N + packing_cost L P N (cells_of s p m)) (64 * (1 + L) * (N + 1 + cells_of s p m)) w (phases (packing_phases x f) w) (AreAllBuilt x f s p m) (omega arith) (both_costs L P N (cells_of s p m) few)
    (leads_both f (f + 1) (cell_counting_cost L P N) (packing_cost L P N (cells_of s p m)) (cell_counting_phase x f ∷ []) (packing_phase x f ∷ []) w
    (AreCellsCounted x f s p m rows) (AreAllBuilt x f s p m) (omega arith) (packing_counts x f s p m rows w b) (λ u c k. packing_builds x f s p m rows u c))
