-- The second phase builds the buffers, and both phases together.
use Rattle.std.proofs.Common.{◌≡◌, ℕ, ◌+◌, ◌*◌, ◌<◌, ◌≤◌, List, [], ◌∷◌, ◌++◌, map, length, Bool, true, false, refl, sym, ap, ◌∙◌, subst, arith, ℤ, Option}
use Rattle.std.proofs.lemmas.List.{length-map, length-append}
use Rattle.us_code.specs.declared.program.Dim.TheVariants as dim
use Rattle.us_code.specs.Run.{Env, State, size_of}
use Rattle.us_code.specs.Runs.{World, make_all, begin, phases}
use Rattle.us_code_laws.specs.Does.{Does}
use Rattle.us_code_laws.proofs.Does.{do_weaker}
use Rattle.us_format.specs.declared.Kind.{Kind}
use Rattle.us_format.specs.declared.Kind.TheVariants.{Full, Compressed, Listed, Slot}
use Rattle.us_format.specs.Kinds.{Level}
use Rattle.us_format.specs.Lists.{cell}
use Rattle.us_format.specs.Matrix.{Shape, Entry}
use Rattle.us_format.specs.Declaration.{Part}
use Rattle.us_format.specs.Positions.{Row, rows_of, count_below, down}
use Rattle.us_format.specs.Reading.{limit}
use Rattle.us_format_loops.specs.Laws.{levels_on}
use Rattle.us_format_loops.specs.Nodes.{has_nodes}
use Rattle.us_gen.specs.Goes.{Leads, after}
use Rattle.us_gen.proofs.Going.{leads_none, leads_both, Body, phase_leads}
use Rattle.us_gen_build.specs.Levels.{LevelTree}
use Rattle.us_gen_build.specs.Turns.{Turns, names_end}
use Rattle.us_gen_build.specs.Loops.{turned, at_top, LoopNeeds}
use Rattle.us_gen_build.specs.Kinds.{NamesRise}
use Rattle.us_gen_build.specs.Making.{makes, SmallOf, AllSmall, Made}
use Rattle.us_gen_build.proofs.LoopRun.{columns_stay, picks_stay}
use Rattle.us_gen_build.proofs.Making.{buffers_are_zero}
use Rattle.us_gen_build_laws.specs.Rows.{row}
use Rattle.us_gen_build_laws.specs.Built.{lists_of, all_lists}
use Rattle.us_gen_build_laws.proofs.Part.{sorted-ready, at-top}
use Rattle.us_build_loops.specs.Standing.{AllStand}
use Rattle.us_build_loops.specs.Finished.{Fills, FillBuffers, all_lists_in, values_in}
use Rattle.us_build_loops.specs.Laws.{TakeRows, PiecesBuilt}
use Rattle.us_build_loops.proofs.AllLevels.{all-need, blocks-build-pieces}
use Rattle.us_gen_building.specs.declared.part.PartLevel.{PartLevel}
use Rattle.us_gen_building.specs.declared.part.PartLoops.{PartLoops}
use Rattle.us_gen_building.specs.declared.part.Descent.{Descent}
use Rattle.us_gen_building.specs.Levels.{are_last, columns, positions, deeper, slot_role, role_of, built_level, built_values, built_levels}
use Rattle.us_gen_building.specs.Phases.{order_of, first_column, dims_from, turn_from, built_from, ends_from, building_top, all_built, all_columns, counting_phase, building_phase, building_phases, level_buffers, all_buffers}
use Rattle.us_gen_building.specs.Runs.{levels_of, AreSmall, HaveDims, IsCounted, AreBuilt, counting_cost, building_cost, cells_of, BuildingBuilds, PhasesBuild}
use Rattle.us_gen_building.proofs.Registers.{turns_of, HoldColumns, loads_hold, ReadRows, rows_read, last_read}
use Rattle.us_gen_building.proofs.Standing.{length_levels, built_stand, above_is, small_here}
use Rattle.us_gen_building.proofs.Lines.{leads_looser}
use Rattle.us_gen_building.proofs.Keeping.{small_shuffled, columns_higher, columns_front, keys_stay, column_last, picks_higher}
use Rattle.us_gen_building.proofs.Counting.{stand_lower, base_high, base_low, counting_counts}

-- ---- names and numbers

length_built : (count : ℕ) (ls : List PartLevel) (x : Descent) → length (built_levels count ls x) ≡ length ls + 1
length_built count [] x = refl
length_built count (l ∷ ls) x = omega (arith, length_built count ls (deeper count l (are_last ls) x))

pub built_rise : (count : ℕ) (ls : List PartLevel) (x : Descent) (e : ℕ) → x.first + 4 * length ls + 4 ≤ e → NamesRise x.first (built_levels count ls x) e
built_rise count [] x e h = (omega arith, omega (arith, h))
built_rise count (l ∷ ls) x e h = (omega arith, built_rise count ls (deeper count l (are_last ls) x) e (omega (arith, h)))

built_end : (count : ℕ) (ls : List PartLevel) (x : Descent) (lo e : ℕ) → x.first + 4 * length ls + 4 ≤ e → names_end lo (built_levels count ls x) ≤ e
built_end count [] x lo e h = omega (arith, h)
built_end count (l ∷ ls) x lo e h = built_end count ls (deeper count l (are_last ls) x) (x.first + 4) e (omega (arith, h))

role_small : (env : Env) (k : Kind) (last ranked : Bool) (t : LevelTree) → (has_nodes k ≡ true → size_of env t.pos_length ≤ 67108865) → size_of env t.crd_length ≤ 67108865 → SmallOf env (role_of k last ranked) t
role_small env Full last ranked t p c = tt
role_small env Compressed true ranked t p c = (p refl, c)
role_small env Compressed false ranked t p c = (p refl, c)
role_small env Listed last ranked t p c = (p refl, c)
role_small env Slot last true t p c = c
role_small env Slot last false t p c = c

values_small : (env : Env) (ranked : Bool) (t : LevelTree) → size_of env t.crd_length ≤ 67108865 → SmallOf env (slot_role ranked) t
values_small env true t c = c
values_small env false t c = c

built_small : (env : Env) (count : ℕ) (ls : List PartLevel) (x : Descent) (n : ℕ) (rows : List Row) → HaveDims env count ls (levels_of env ls) x.is_top x.above x.dims n rows → AreSmall (levels_of env ls) n rows → AllSmall env (built_levels count ls x)
built_small env count [] x n rows d s = (values_small env x.is_rank (built_values x) (omega (arith, d, s)), tt)
built_small env count (l ∷ ls) x n rows d s =
    let m : ℕ = count_below l.kind (size_of env l.size) n rows in
    let under : List Row = down l.kind (size_of env l.size) rows in
    let e : size_of env (positions l.kind (are_last ls) count x.above (x.dims + 1)) ≡ m = above_is env count ls (levels_of env ls) false (positions l.kind (are_last ls) count x.above (x.dims + 1)) (x.dims + 2) m under d.2 in
    let le : m ≤ limit = small_here (levels_of env ls) m under s.1 in (
      role_small env l.kind (are_last ls) x.is_rank (built_level count l (are_last ls) x) (λ h. omega (arith, d.1 h, s.0.starts h)) (omega (arith, e, le)),
      built_small env count ls (deeper count l (are_last ls) x) m under d.2 s.1,
    )

-- ---- buffers

role_fills : (k : Kind) (last ranked : Bool) → Fills (role_of k last ranked)
role_fills Full last ranked = tt
role_fills Compressed true ranked = tt
role_fills Compressed false ranked = tt
role_fills Listed last ranked = tt
role_fills Slot last true = tt
role_fills Slot last false = tt

built_fill : (env : Env) (count : ℕ) (ls : List PartLevel) (x : Descent) → FillBuffers (built_levels count ls x) (levels_of env ls)
built_fill env count [] x = tt
built_fill env count (l ∷ ls) x = (role_fills l.kind (are_last ls) x.is_rank, built_fill env count ls (deeper count l (are_last ls) x))

level_lists : (bufs : ℕ → List ℤ) (k : Kind) (last ranked : Bool) (first : ℕ) (rest : List ℕ) (more : List (List ℤ)) → map bufs rest ≡ more
    → map bufs (level_buffers (role_of k last ranked) first ++ rest) ≡ lists_of k record { starts = bufs first; coordinates = bufs (first + 1) } ++ more
level_lists bufs Full last ranked first rest more e = e
level_lists bufs Compressed true ranked first rest more e = ap (λ (xs : List (List ℤ)). bufs first ∷ bufs (first + 1) ∷ xs) e
level_lists bufs Compressed false ranked first rest more e = ap (λ (xs : List (List ℤ)). bufs first ∷ bufs (first + 1) ∷ xs) e
level_lists bufs Listed last ranked first rest more e = ap (λ (xs : List (List ℤ)). bufs first ∷ bufs (first + 1) ∷ xs) e
level_lists bufs Slot last true first rest more e = ap (λ (xs : List (List ℤ)). bufs (first + 1) ∷ xs) e
level_lists bufs Slot last false first rest more e = ap (λ (xs : List (List ℤ)). bufs (first + 1) ∷ xs) e

value_lists : (bufs : ℕ → List ℤ) (ranked : Bool) (first : ℕ) → map bufs (level_buffers (slot_role ranked) first ++ []) ≡ bufs (first + 1) ∷ []
value_lists bufs true first = refl
value_lists bufs false first = refl

built_lists : (env : Env) (count : ℕ) (ls : List PartLevel) (x : Descent) (v : State)
    → map v.bufs (all_buffers (built_levels count ls x)) ≡ all_lists (levels_of env ls) (all_lists_in v (built_levels count ls x) (levels_of env ls)) (values_in v (built_levels count ls x) (levels_of env ls))
built_lists env count [] x v = value_lists v.bufs x.is_rank x.first
built_lists env count (l ∷ ls) x v = level_lists v.bufs l.kind (are_last ls) x.is_rank x.first _ _ (built_lists env count ls (deeper count l (are_last ls) x) v)

-- ---- the phase

new_lead : (ls : List LevelTree) (low lo n : ℕ) (w : World) → low ≤ lo → NamesRise lo ls n → AllSmall w.env ls → Leads low (2 * length ls) w (make_all (makes ls) w) (Made lo n ls w)
new_lead ls low lo n w le rise small =
    let a = buffers_are_zero lo n ls w rise small in
    leads_looser lo low (2 * length ls) (2 * length ls) w (make_all (makes ls) w) (Made lo n ls w) le (omega arith) record { end = a.0; arrives = a.1; post = a.2 }

module _ (x : PartLoops) (f : ℕ) (s : Shape) (p : Part) (m : List Entry) (rows : List Row) (w : World) (c : IsCounted x f s p m rows w) where
  abbrev L : ℕ
  L = length x.levels.items

  abbrev N : ℕ
  N = length rows

  abbrev order : Option ℕ
  order = order_of x.keys f

  abbrev a : ℕ
  a = turn_from f L

  abbrev lo : ℕ
  lo = built_from f L

  abbrev n : ℕ
  n = ends_from f L

  abbrev r : ℕ
  r = first_column order a

  abbrev cols : List ℕ
  cols = all_columns x

  abbrev trees : List LevelTree
  trees = all_built x f

  abbrev ks : List Level
  ks = levels_of w.env x.levels.items

  small : AreSmall ks 1 c.turns
  small = subst (λ (ls : List Level). AreSmall ls 1 c.turns) (sym c.loops.levels) (small_shuffled (levels_on s p m) 1 (rows_of m s p) c.turns c.shuffled c.loops.small)

  dims : HaveDims w.env x.count x.levels.items ks true (dim.Number 1) (dims_from f L) 1 c.turns
  dims = subst (λ (ls : List Level). HaveDims w.env x.count x.levels.items ls true (dim.Number 1) (dims_from f L) 1 c.turns) (sym c.loops.levels) c.dims

  rise : NamesRise lo trees n
  rise = built_rise x.count x.levels.items (building_top x f) n (omega arith)

  length_cols : length cols ≡ L + 1
  length_cols = length-append (columns x.levels.items) (x.values ∷ []) ∙ ap (λ (y : ℕ). y + 1) (length-map x.levels.items (λ l. l.column))

  length_trees : length trees ≡ L + 1
  length_trees = length_built x.count x.levels.items (building_top x f)

  module _ (u : World) (h : Made lo n trees w u) where
    abbrev z : State
    z = begin u

    low : (b : ℕ) → b < f + 1 → z.bufs b ≡ w.bufs b
    low b lt = h.bufs b (λ q. absurd (omega (arith, q, lt)))

    abbrev T : Turns
    T = turns_of w.env N a order cols c.place z

    held : HoldColumns T.held z.bufs c.place r cols
    held = loads_hold z.bufs c.place cols r (λ y. turned order z.regs a y (c.place y))

    reads : ReadRows T.held T.base N r x.levels.items (λ y. (row c.turns y).rest)
    reads =
        rows_read T.held T.base N z.bufs c.place x.levels.items (x.values ∷ []) r (λ y. (row rows y).rest) (λ y. (row c.turns y).rest) c.within (λ y lt. ap (λ (q : Row). q.rest) (c.turn y lt)) (omega (arith, length_cols)) held
        (keys_stay f N N w.bufs z.bufs (columns x.levels.items) (λ y. (row rows y).rest) (columns_front f N w.bufs (columns x.levels.items) (x.values ∷ []) c.hold.long) (λ b lt. low b (omega (arith, lt))) c.hold.coordinates)

    low_values : x.values < f
    low_values = column_last f N w.bufs (columns x.levels.items) x.values c.hold.long

    reads_value : (y : ℕ) → y < N → T.held y (r + L) ≡ (row c.turns y).value
    reads_value y lt =
        last_read T.held z.bufs c.place x.levels.items x.values [] r held y
        ∙ (ap (λ (xs : List ℤ). cell xs (c.place y)) (low x.values (omega (arith, low_values))) ∙ (c.hold.values (c.place y) (c.within y lt) ∙ ap (λ (q : Row). q.value) (sym (c.turn y lt))))

    base : T.base ≤ lo
    base = omega (arith, base_high order cols a, length_cols)

    room : f + 1 ≤ T.base
    room = omega (arith, base_low order cols a)

    stand : AllStand T T.base trees (levels_on s p m) 1 c.turns at_top
    stand =
        subst (λ (ls : List Level). AllStand T T.base trees ls 1 c.turns at_top) c.loops.levels
        (stand_lower T lo T.base trees ks 1 c.turns at_top base
        (built_stand T record { coord = λ l y. refl; wide = λ l. refl } x.count x.levels.items (building_top x f) 1 c.turns at_top (λ y. (row c.turns y).rest) (λ y. (row c.turns y).value) record {
          room = base;
          entries = c.number;
          reads = reads;
          end = omega (arith, length_cols);
          reads_value = reads_value;
          rest_is = λ y lt. refl;
          value_is = λ y lt. refl;
          dims = dims;
          small = small;
          ranked = λ e. absurd cc;
          top = λ e. refl;
        }))

    takes : TakeRows T T.base trees (levels_on s p m) 1 c.turns at_top
    takes = record {
      entries = c.number;
      ready = sorted-ready s p m c.turns c.loops.lawful c.loops.matrix c.shuffled c.sorted;
      positions = at-top s p m c.loops.lawful c.loops.matrix c.turns c.shuffled;
      stand = stand;
    }

    needs : LoopNeeds T (dim.Name x.count) order cols trees c.place z
    needs = record {
      count = sym c.hold.count;
      base = refl;
      held = λ y q lt g. refl;
      few = omega (arith, c.loops.few);
      picks = picks_higher order (f + 1) T.base N z.bufs c.place room (picks_stay order (f + 1) N w.bufs z.bufs c.place low c.picks);
      within = c.within;
      columns = columns_higher f T.base N z.bufs cols (omega (arith, room)) (columns_stay f N w.bufs z.bufs cols (λ b lt. low b (omega (arith, lt))) c.hold.long);
      need = all-need T T.base trees (levels_on s p m) 1 c.turns at_top takes;
    }

    abbrev cost : ℕ
    cost = 1 + 2 * (L + 1) + N * (2 + (L + 1)) + (L + 1) * (7 * N) + (2 * L + 4 * cells_of s p m)

    levels_number : length (levels_on s p m) ≡ L
    levels_number = sym (ap (λ (ls : List Level). length ls) c.loops.levels) ∙ length_levels w.env x.levels.items

    steps : (v : State) → PiecesBuilt s p m T cols trees z v → v.steps ≤ u.steps + cost
    steps v b =
        let i : v.steps ≤ z.steps + 1 + 2 * (L + 1) + N * (2 + length cols) + (L + 1) * (7 * N) + (2 * length (levels_on s p m) + 4 * cells_of s p m) =
        subst (λ (q : ℕ). v.steps ≤ z.steps + 1 + 2 * q + N * (2 + length cols) + q * (7 * N) + (2 * length (levels_on s p m) + 4 * cells_of s p m)) length_trees b.steps in
        let j : v.steps ≤ z.steps + 1 + 2 * (L + 1) + N * (2 + (L + 1)) + (L + 1) * (7 * N) + (2 * length (levels_on s p m) + 4 * cells_of s p m) =
        subst (λ (q : ℕ). v.steps ≤ z.steps + 1 + 2 * (L + 1) + N * (2 + q) + (L + 1) * (7 * N) + (2 * length (levels_on s p m) + 4 * cells_of s p m)) length_cols i in
        omega (arith, j, levels_number)

    builds : Does u.env (building_phase x f).body z (Body (f + 1) cost 0 [] (AreBuilt x f s p m) u)
    builds =
        subst (λ (env : Env). Does env (building_phase x f).body z (Body (f + 1) cost 0 [] (AreBuilt x f s p m) u)) (sym h.env)
        (do_weaker w.env (building_phase x f).body z _ _
        (λ v b. record {
          steps = steps v b;
          bufs = λ i lt. b.bufs i (λ q. absurd (omega (arith, q, lt, room)));
          then =
              leads_none (f + 1) (after u v) (AreBuilt x f s p m)
              (subst (λ (ls : List Level). map v.bufs (all_buffers trees) ≡ all_lists ls (all_lists_in v trees ls) (values_in v trees ls)) c.loops.levels (built_lists w.env x.count x.levels.items (building_top x f) v) ∙ b.lists);
        })
        (blocks-build-pieces s p m c.turns c.loops.lawful c.loops.matrix c.shuffled c.sorted T (dim.Name x.count) order cols trees c.place n z c.number stand
        (subst (λ (ls : List Level). FillBuffers trees ls) c.loops.levels (built_fill w.env x.count x.levels.items (building_top x f))) needs h.zero (built_end x.count x.levels.items (building_top x f) T.base n (omega arith))))

pub building_builds : BuildingBuilds
building_builds x f s p m rows w c =
    subst (λ (q : ℕ). Leads (f + 1) (2 * q + (1 + 2 * (length x.levels.items + 1) + length rows * (2 + (length x.levels.items + 1)) + (length x.levels.items + 1) * (7 * length rows) + (2 * length x.levels.items + 4 * cells_of s p m)) + 0) w (phases (building_phase x f ∷ []) w) (AreBuilt x f s p m)) (length_trees x f s p m rows w c)
    (phase_leads (f + 1) (2 * length (all_built x f)) (1 + 2 * (length x.levels.items + 1) + length rows * (2 + (length x.levels.items + 1)) + (length x.levels.items + 1) * (7 * length rows) + (2 * length x.levels.items + 4 * cells_of s p m)) 0
    (building_phase x f) w (Made (built_from f (length x.levels.items)) (ends_from f (length x.levels.items)) (all_built x f) w) (AreBuilt x f s p m)
    (new_lead (all_built x f) (f + 1) (built_from f (length x.levels.items)) (ends_from f (length x.levels.items)) w (omega arith) (rise x f s p m rows w c) (built_small w.env x.count x.levels.items (building_top x f) 1 c.turns (dims x f s p m rows w c) (small x f s p m rows w c)))
    (λ u h k. builds x f s p m rows w c u h))

-- ---- both phases

both_costs : (l n cells : ℕ) → counting_cost l n + building_cost l n cells ≤ 64 * (1 + l) * (n + 1 + cells)
both_costs l n cells = omega arith

pub phases_build : PhasesBuild
phases_build x f s p m rows w b =
    leads_looser f f (counting_cost (length x.levels.items) (length rows) + building_cost (length x.levels.items) (length rows) (cells_of s p m)) (64 * (1 + length x.levels.items) * (length rows + 1 + cells_of s p m)) w
    (phases (building_phases x f) w) (AreBuilt x f s p m) (omega arith) (both_costs (length x.levels.items) (length rows) (cells_of s p m))
    (leads_both f (f + 1) (counting_cost (length x.levels.items) (length rows)) (building_cost (length x.levels.items) (length rows) (cells_of s p m)) (counting_phase x f ∷ []) (building_phase x f ∷ []) w
    (IsCounted x f s p m rows) (AreBuilt x f s p m) (omega arith) (counting_counts x f s p m rows w b) (λ u c k. building_builds x f s p m rows u c))
