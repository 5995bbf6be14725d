-- The loops do their block for each entry in the order of positions.
use Rattle.std.specs.Prelude.{Contains, slice_index_or}
use Rattle.std.proofs.Common.{◌≡◌, ◌≢◌, ℕ, zero, suc, ◌+◌, ◌*◌, ◌<◌, ◌≤◌, Bool, true, false, cond, nat_eq, refl, sym, ap, ◌∙◌, subst, arith, List, [], ◌∷◌, ◌++◌, map, length, drop, pos, negsuc, ℤ, ◌⊎◌, inl, inr}
use Rattle.std.proofs.lemmas.Bool.{cases_lt}
use Rattle.std.proofs.lemmas.Bool.Decides.{nat_tests}
use Rattle.std.proofs.lemmas.List.{append_assoc, append-nil}
use Rattle.us_code.specs.Plain.{TermTree, Number, Reg, Code, End}
use Rattle.us_code.specs.Run.{Env, State, value, tick, test}
use Rattle.us_code_laws.specs.Does.{Does}
use Rattle.us_code_laws.proofs.Does.{do_end, do_weaker, do_if_yes, do_if_no}
use Rattle.us_expr.specs.Tree.{Tree}
use Rattle.us_format.specs.declared.Kind.{Kind}
use Rattle.us_format.specs.declared.Kind.TheVariants as kind
use Rattle.us_format.specs.Lists.{nth, cell, nat_of}
use Rattle.us_format.specs.Matrix.{Shape, Entry, IsMatrixOf}
use Rattle.us_format.specs.Declaration.{Part}
use Rattle.us_format.specs.Coordinates.{coordinates as coordinates_at}
use Rattle.us_format.specs.Kinds.{Level}
use Rattle.us_format.specs.Positions.{Row, count_below, down, rows_of}
use Rattle.us_format.specs.Climb.{width}
use Rattle.us_format.specs.Rules.{IsLawful}
use Rattle.us_format.specs.Laws.{contents_of, position_of}
use Rattle.us_format_loops.specs.Laws.{levels_on, values_on, found_of, way_on}
use Rattle.us_format_loops.specs.Ways.{Cells, HoldsLevel, HoldsLevels, Place, IsUnder, IsWay}
use Rattle.us_format_loops.proofs.Lawful.{starts-count-nodes, entries-have-one-way}
use Rattle.us_format_loops.proofs.Filled.{tight-parts-are-filled, last-below}
use Rattle.us_invert.specs.declared.steps.PlanStep.{PlanStep}
use Rattle.us_invert.specs.Plan.{step_at}
use Rattle.us_gen.specs.Nest.{Same, Visits, At}
use Rattle.us_gen.specs.declared.nests.Level.{Level as Looped}
use Rattle.us_gen.specs.declared.nests.Level.TheVariants.{Full, Nodes, Crd, Cell, Packed}
use Rattle.us_gen.specs.Levels.{names, level, inside, Inside, nest, end_of, first_in, all_inside, work_in, AllInside, Running, stays}
use Rattle.us_gen.proofs.NestsOfLevels.{nest_visits, nest_at}
use Rattle.us_gen_recover.specs.declared.places.Coordinate.{Coordinate}
use Rattle.us_gen_recover.specs.Recovery.{coordinate, recovery}
use Rattle.us_gen_recover.specs.Values.{CoordinatesAre}
use Rattle.us_gen_recover.proofs.StepsRun.{do_recovery}
use Rattle.us_gen_walk.specs.declared.places.Column.{Column}
use Rattle.us_gen_walk.specs.declared.places.Column.TheVariants as column
use Rattle.us_gen_walk.specs.declared.places.Slot.{Slot}
use Rattle.us_gen_walk.specs.declared.places.Places.{Places}
use Rattle.us_gen_walk.specs.Walk.{tested, loop_levels, loop_coordinates, slot_levels, slot_coordinates, leaf_at, steps_at, coordinates, is_tight, unless_zero, leaf, position, walk, end}
use Rattle.us_gen_walk.specs.Runs.{HasColumn, HasSlot, HasSlots, HasPlaces, Recovers, entries_below, rank_of, Shows, leaf_cost, entry_cost, walk_cost, WalkLists}
use Rattle.us_gen_walk.proofs.Around.{end_after}
use Rattle.us_gen_walk.proofs.CellReads.{Read, column_do}
use Rattle.us_gen_walk.proofs.Ranks.{one_more, no_more, all_below, none_below, not_zero}
use Rattle.us_gen_walk.proofs.TableReads.{in_sources, tables_are, walked_in, ready_same}
use Rattle.us_gen_walk.proofs.WaysDown.{Held, Know, know_more, know_down, Facts, facts, tight_as}

-- ---- what the registers hold inside a nest depends on those below its end

module _ (env : Env) where
  level_same : (l : Looped) (n N : ℕ) (K : ℕ → (ℕ → ℤ) → Type 0) → ((q : ℕ) (f g : ℕ → ℤ) → ((r : ℕ) → r < n → g r ≡ f r) → K q f → K q g)
      → (q : ℕ) (f g : ℕ → ℤ) → ((r : ℕ) → r < n + names l → g r ≡ f r) → Inside env l n N K q f → Inside env l n N K q g
  level_same (Full size) n N K st q f g h k =
      record { parent = k.parent; exists = k.exists; coordinate = k.coordinate; in_size = k.in_size; place = k.place; above = st k.parent f g (λ r l. h r (omega (arith, l))) k.above; held = h n (omega arith) ∙ k.held }
  level_same (Nodes x more nodes) n N K st q f g h k =
      record { parent = k.parent; exists = k.exists; from = k.from; to = k.to; above = st k.parent f g (λ r l. h r (omega (arith, l))) k.above; held = h (n + 6) (omega arith) ∙ k.held }
  level_same (Crd x) n N K st q f g h k = record { above = st q f g (λ r l. h r (omega (arith, l))) k.above; held = h n (omega arith) ∙ k.held }
  level_same (Cell x) n N K st q f g h k = record { above = st q f g (λ r l. h r (omega (arith, l))) k.above; held = h (n + 1) (omega arith) ∙ k.held }
  level_same (Packed x w digit) n N K st q f g h k = record { above = st q f g (λ r l. h r (omega (arith, l))) k.above; held = h (n + 1) (omega arith) ∙ k.held }

  inside_same : (ls : List Looped) (n N : ℕ) (K : ℕ → (ℕ → ℤ) → Type 0) → ((q : ℕ) (f g : ℕ → ℤ) → ((r : ℕ) → r < n → g r ≡ f r) → K q f → K q g)
      → (q : ℕ) (f g : ℕ → ℤ) → ((r : ℕ) → r < end_of ls n → g r ≡ f r) → AllInside env ls n N K q f → AllInside env ls n N K q g
  inside_same [] n N K st q f g h a = st q f g h a
  inside_same (l ∷ ls) n N K st q f g h a = inside_same ls (n + names l) (inside env l N) (Inside env l n N K) (level_same l n N K st) q f g h a

-- ---- slot levels

slot_nest : (c : Column) (ls : List Looped) (e : TermTree) (n : ℕ) (inner : Code) → nest (tested c ∷ ls) e n inner ≡ level (tested c) e n (nest ls e (n + 2) inner)
slot_nest (column.Own k) ls e n inner = refl
slot_nest (column.Packed k w digit) ls e n inner = refl

record IsSlot (env : Env) (c : Column) (k : Kind) (bufs : List (List ℤ)) (N : ℕ) : Type 0 where
  column_is : HasColumn env c (nth bufs 0)
  cells_are : Cells (nth bufs 0) N
  kind_is : k ≡ kind.Slot

slot_is : (env : Env) (c : Column) (k : Kind) (size : ℕ) (bufs : List (List ℤ)) (N : ℕ) (rows : List Row) → HasSlot env c k bufs → HoldsLevel k size bufs N rows → IsSlot env c k bufs N
slot_is env c kind.Full size bufs N rows h holds = absurd h
slot_is env c kind.Compressed size bufs N rows h holds = absurd h
slot_is env c kind.Listed size bufs N rows h holds = absurd h
slot_is env c kind.Slot size bufs N rows h holds = record { column_is = h; cells_are = holds; kind_is = refl }

module _ (env : Env) (T : List Level) (B : List (List ℤ)) where
  slots_do : (xs : List Slot) (levels : List Level) (bufs : List (List ℤ)) (N : ℕ) (rows : List Row) (e : TermTree) (n q : ℕ) (inner : Code) (u : State) (Q : State → Type 0) (cs : List Coordinate)
      → HasSlots env xs levels bufs → HoldsLevels levels bufs N rows → q < N → ((f : ℕ → ℤ) → ((r : ℕ) → r < n → f r ≡ u.regs r) → value env f e ≡ pos q) → Know T B n levels bufs cs q u.regs
      → ((v : State) (left : List (List ℤ)) → Know T B (n + 2 * length xs) [] left (cs ++ slot_coordinates xs n) q v.regs → v.bufs ≡ u.bufs → v.steps ≡ u.steps + 2 * length xs → ((r : ℕ) → r < n → v.regs r ≡ u.regs r) → Does env inner v Q)
      → Does env (nest (slot_levels xs) e n inner) u Q
  slots_do [] [] bufs N rows e n q inner u Q cs h holds lq here k then =
      then u bufs (subst (λ (ds : List Coordinate). Know T B (n + 0) [] bufs ds q u.regs) (sym (append-nil cs)) (know_more T B n (n + 0) [] bufs cs q u.regs u.regs (omega arith) (λ r l. refl) k)) refl (omega arith) (λ r l. refl)
  slots_do [] (l ∷ levels) bufs N rows e n q inner u Q cs h holds lq here k then = absurd h
  slots_do (x ∷ xs) [] bufs N rows e n q inner u Q cs h holds lq here k then = absurd h
  slots_do (x ∷ xs) (l ∷ levels) bufs N rows e n q inner u Q cs h holds lq here k then =
      let c = slot_is env x.crd l.kind l.size bufs N rows h.0 holds.0 in
      let at : Place = record { position = q; coordinate = nat_of (cell (nth bufs 0) q) } in
      let under : IsUnder l.kind l.size bufs q at = subst (λ (k : Kind). IsUnder k l.size bufs q at) (sym c.kind_is) (refl, c.cells_are.each q) in
      let number : count_below l.kind l.size N rows ≡ N = subst (λ (k : Kind). count_below k l.size N rows ≡ N) (sym c.kind_is) refl in
      let made : Coordinate = record { reg = n + 1; low = x.low } in
      subst (λ (code : Code). Does env code u Q) (sym (slot_nest x.crd (slot_levels xs) e n inner))
      (column_do env x.crd (nth bufs 0) e n q (nest (slot_levels xs) e (n + 2) inner) u Q c.column_is (omega (arith, lq, c.cells_are.long)) (here u.regs (λ r l. refl))
      (λ v rd.
      slots_do xs levels (drop (width l.kind) bufs) (count_below l.kind l.size N rows) (down l.kind l.size rows) e (n + 2) q inner v Q (cs ++ made ∷ []) h.1 holds.1 (omega (arith, lq, number))
      (λ f same. here f (λ r lt. same r (omega (arith, lt)) ∙ rd.regs r lt))
      (know_down T B n (n + 2) l levels bufs cs made q q u.regs v.regs at (omega arith) rd.regs k under refl (omega arith) (rd.made ∙ c.cells_are.each q))
      (λ z left kz eb es er.
      then z left
      (subst (λ (ds : List Coordinate). Know T B (n + 2 * length (x ∷ xs)) [] left ds q z.regs) (append_assoc cs (made ∷ []) (slot_coordinates xs (n + 2)))
      (know_more T B (n + 2 + 2 * length xs) (n + 2 * length (x ∷ xs)) [] left ((cs ++ made ∷ []) ++ slot_coordinates xs (n + 2)) q z.regs z.regs (omega arith) (λ r lt. refl) kz))
      (eb ∙ rd.bufs) (omega (arith, es, rd.steps)) (λ r lt. er r (omega (arith, lt)) ∙ rd.regs r lt))))

-- ---- small facts

held_at : (n : ℕ) (f : ℕ → ℤ) (cs : List Coordinate) (xs : List Place) (k : ℕ) → Held n f cs xs → k < length cs → ((coordinate cs k).reg < n) × (f (coordinate cs k).reg ≡ pos (slice_index_or (map (λ a. a.coordinate) xs) k 0))
held_at n f [] xs k h lt = absurd (omega (arith, lt))
held_at n f (c ∷ cs) [] k h lt = absurd h
held_at n f (c ∷ cs) (x ∷ xs) zero h lt = (h.0, h.1)
held_at n f (c ∷ cs) (x ∷ xs) (suc k) h lt = held_at n f cs xs k h.2 (omega (arith, lt))

test_zero : (z : ℤ) → test true z (pos 0) ≡ true → z ≡ pos 0
test_zero (pos n) h = ap pos (is n h)
  where
    is : (n : ℕ) → nat_eq n 0 ≡ true → n ≡ 0
    is n h = grind (arith, nat_tests)
test_zero (negsuc n) h = absurd cc

test_other : (z : ℤ) → test true z (pos 0) ≡ false → z ≢ pos 0
test_other z h = λ e. let t : true ≡ false = ap (λ (y : ℤ). test true y (pos 0)) (sym e) ∙ h in absurd cc

-- ---- all

module _ (env : Env) (kept : ℕ → Type 0) (w : Places) (s : Shape) (p : Part) (m : List Entry) (ts : List Tree) (steps : List PlanStep) (row col n : ℕ) (inner : Code) (J : ℕ → State → Type 0) (D : ℕ)
    (la : IsLawful p) (im : IsMatrixOf s m) (places : HasPlaces env w s p m) (recovers : Recovers w s p m ts steps row col n) (free : (r : ℕ) → n ≤ r → kept r)
    (stable : (t : ℕ) (u v : State) → v.bufs ≡ u.bufs → ((r : ℕ) → r < n → v.regs r ≡ u.regs r) → J t u → J t v)
    (takes : (x : Entry) (u : State) → Contains m x → Shows env w steps row col n x u.regs → J (rank_of s p m x) u → Does env inner u (λ v. J (rank_of s p m x + 1) v × (v.steps ≤ u.steps + D) × Same kept (end w steps n) u.regs v.regs)) where
  abbrev T : List Level
  T = levels_on s p m

  abbrev B : List (List ℤ)
  B = (contents_of s p m).cells

  abbrev LS : List Looped
  LS = loop_levels w.loops.items

  abbrev b : ℕ
  b = leaf_at w n

  abbrev K0 : ℕ → (ℕ → ℤ) → Type 0
  K0 q f = Unit {0}

  abbrev N : ℕ
  N = all_inside env LS 1

  abbrev A : ℕ → (ℕ → ℤ) → Type 0
  A = AllInside env LS n 1 K0

  abbrev below : ℕ → ℕ
  below q = entries_below s p m q

  abbrev C : ℕ → ℕ
  C q = leaf_cost w * q + entry_cost w steps D * entries_below s p m q

  abbrev code : Code
  code = recovery (coordinates w n) w.tables.items steps [] (steps_at w n) inner

  abbrev entry_code : Code
  entry_code = nest (slot_levels w.slots.items) (position w n) (leaf_at w n + 2) code

  F : Facts T B env w.slots.items w.loops.items T B 1
  F = facts T B env w.slots.items w.loops.items T B 1 (rows_of m s p) places.levels (starts-count-nodes s p m la im) places.numbers

  at0 : At env (Number 0) 1 K0 (λ q. q)
  at0 = λ q f lt k. ap pos (omega (arith, lt))

  place_is : (q : ℕ) (f : ℕ → ℤ) → q < N → A q f → value env f (position w n) ≡ pos q
  place_is q f lt a = nest_at env kept LS (Number 0) n 1 K0 at0 F.fit q f lt a

  knows : (q : ℕ) (f : ℕ → ℤ) → q < N → A q f → Know T B b F.rest F.rest_bufs (loop_coordinates w.loops.items n) q f
  knows q f lt a =
      F.reads n K0 [] (λ y g ly k. record { way = []; held = tt; ends = omega (arith, ly); joins = λ vs h. subst (λ (x : ℕ). IsWay T B x vs) (omega (arith, ly)) h }) q f lt a

  number : N ≡ length (values_on s p m)
  number = F.number

  low : n ≤ b
  low = end_after LS n

  -- the coordinates of an entry are those of the way to its position
  coordinates_are : (x : Entry) (regs : ℕ → ℤ) (left : List (List ℤ)) → Contains m x → Know T B (steps_at w n) [] left (coordinates w n) (position_of s p m x) regs → CoordinatesAre (coordinates w n) (found_of s p m x) (steps_at w n) regs
  coordinates_are x regs left cx k =
      let one = entries-have-one-way s p m la im in
      let is_way : IsWay T B 0 k.way = subst (IsWay T B 0) (append-nil k.way) (k.joins [] tt) in
      let same : k.way ≡ way_on s p m x = one.only x cx k.way is_way k.ends in
      let cs : map (λ a. a.coordinate) k.way ≡ coordinates_at m s p x = ap (λ (ws : List Place). map (λ a. a.coordinate) ws) same ∙ one.coordinates x cx in
      λ i lt. let h = held_at (steps_at w n) regs (coordinates w n) k.way i k.held lt in (h.0, h.1 ∙ ap (λ (xs : List ℕ). pos (slice_index_or xs i 0)) cs)

  -- at an entry whose value is read
  entry_does : (x : Entry) (u : State) → Contains m x → Know T B (b + 2) F.rest F.rest_bufs (loop_coordinates w.loops.items n) (position_of s p m x) u.regs → u.regs (b + 1) ≡ x.v
      → ((f : ℕ → ℤ) → ((r : ℕ) → r < b + 2 → f r ≡ u.regs r) → value env f (position w n) ≡ pos (position_of s p m x)) → position_of s p m x < N → J (rank_of s p m x) u
      → Does env entry_code u (λ v. J (rank_of s p m x + 1) v × (v.steps ≤ u.steps + entry_cost w steps D) × Same kept b u.regs v.regs)
  entry_does x u cx k val here lt j =
      slots_do env T B w.slots.items F.rest F.rest_bufs N F.rest_rows (position w n) (b + 2) (position_of s p m x) code u _ (loop_coordinates w.loops.items n) F.slots_are F.holds lt here k
      (λ v left kv eb es er.
      let r = recovers.each x cx in
      let f = found_of s p m x in
      do_recovery env (coordinates w n) w.tables.items s p (in_sources env w.tables.items f) ts steps r.values (steps_at w n) inner v _
      (walked_in env w.tables.items f places.tables s p (coordinates w n) r.values ts steps r.ready ∙ r.walked_are) recovers.same_length (coordinates_are x v.regs left cx kv)
      (tables_are env w.tables.items f places.tables) (λ k l. ready_same env w.tables.items f places.tables (coordinates w n) r.values k _ (step_at steps k) (r.ready k l))
      (λ t g.
      do_weaker env inner t _ _
      (λ z d. (d.0, omega (arith, d.1, g.steps_are, es), λ a ka la. d.2 a ka (omega (arith, la)) ∙ (g.regs a (omega (arith, la)) ∙ er a (omega (arith, la)))))
      (takes x t cx
      (record {
        value_is = g.regs (b + 1) (omega arith) ∙ (er (b + 1) (omega arith) ∙ val);
        row_is = λ h a. g.values row recovers.row_below h a ∙ r.row_is;
        col_is = λ h a. g.values col recovers.col_below h a ∙ r.col_is;
      })
      (stable (rank_of s p m x) u t (g.bufs ∙ eb) (λ a la. g.regs a (omega (arith, la, low)) ∙ er a (omega (arith, la, low))) j))))

  abbrev Goal : ℕ → ℕ → State → State → Type 0
  Goal base q u v = J (below (q + 1)) v × (v.steps ≤ base + C (q + 1)) × Same kept b u.regs v.regs

  -- where position q is that of an entry, behind the read of the value
  at_entry : (base q : ℕ) (u v : State) (x : Entry) (extra : ℕ) → q < N → A q u.regs → J (below q) u → u.steps ≤ base + C q → Contains m x → position_of s p m x ≡ q → leaf_cost w ≡ extra
      → v.regs (b + 1) ≡ cell (values_on s p m) q → ((r : ℕ) → r < b → v.regs r ≡ u.regs r) → v.bufs ≡ u.bufs → v.steps ≡ u.steps + extra → Does env entry_code v (Goal base q u)
  at_entry base q u v x extra lq a j le cx eq cost val regs bufs st =
      let one = entries-have-one-way s p m la im in
      let count : below (q + 1) ≡ rank_of s p m x + 1 = ap (λ (y : ℕ). entries_below s p m (y + 1)) (sym eq) ∙ one_more s p m la im x cx in
      let same : below q ≡ rank_of s p m x = ap (λ (y : ℕ). entries_below s p m y) (sym eq) in
      do_weaker env entry_code v _ (Goal base q u)
      (λ z d. (
        subst (λ (y : ℕ). J y z) (sym count) d.0,
        omega (arith, d.1, st, le, cost, ap (λ (y : ℕ). entry_cost w steps D * y) count, ap (λ (y : ℕ). entry_cost w steps D * y) same),
        λ r kr lr. d.2 r kr lr ∙ regs r lr,
      ))
      (entry_does x v cx
      (subst (λ (y : ℕ). Know T B (b + 2) F.rest F.rest_bufs (loop_coordinates w.loops.items n) y v.regs) (sym eq)
      (know_more T B b (b + 2) F.rest F.rest_bufs (loop_coordinates w.loops.items n) q u.regs v.regs (omega arith) regs (knows q u.regs lq a)))
      (val ∙ (ap (λ (y : ℕ). cell (values_on s p m) y) (sym eq) ∙ one.value x cx))
      (λ f h. place_is q f lq (inside_same env LS n 1 K0 (λ y g k t i. tt) q u.regs f (λ r lr. h r (omega (arith, lr)) ∙ regs r lr) a) ∙ ap pos (sym eq))
      (omega (arith, lq, eq)) (subst (λ (y : ℕ). J y v) same (stable (below q) u v bufs (λ r lr. regs r (omega (arith, lr, low))) j)))

  -- behind the read of the value
  at_value : (base q : ℕ) (u v : State) → q < N → A q u.regs → J (below q) u → u.steps ≤ base + C q → Read b (cell (values_on s p m) q) u v → (t : Bool) → is_tight w ≡ t → Does env (unless_zero t (b + 1) entry_code) v (Goal base q u)
  at_value base q u v lq a j le rd true et =
      let x = (tight-parts-are-filled s p m la im (tight_as env w.slots.items w.loops.items T B places.levels et)).entry q (omega (arith, lq, number)) in
      at_entry base q u v x.0 2 lq a j le x.1 x.2 (ap (λ (t : Bool). cond t 2 3) et) rd.made rd.regs rd.bufs rd.steps
  at_value base q u v lq a j le rd false et = by (test true (cell (values_on s p m) q) (pos 0)) refl
    where
      cost : leaf_cost w ≡ 3
      cost = ap (λ (t : Bool). cond t 2 3) et

      tested_is : test true (v.regs (b + 1)) (pos 0) ≡ test true (cell (values_on s p m) q) (pos 0)
      tested_is = ap (λ (z : ℤ). test true z (pos 0)) rd.made

      by : (t : Bool) → test true (cell (values_on s p m) q) (pos 0) ≡ t → Does env (unless_zero false (b + 1) entry_code) v (Goal base q u)
      by true e =
          let one = entries-have-one-way s p m la im in
          let none : below (q + 1) ≡ below q = no_more s p m la im q (λ x cx eq. not_zero s p m la im x cx (sym (one.value x cx) ∙ (ap (λ (y : ℕ). cell (values_on s p m) y) eq ∙ test_zero (cell (values_on s p m) q) e))) in
          let j1 : J (below q) (tick 1 v) = stable (below q) u (tick 1 v) rd.bufs (λ r lr. rd.regs r (omega (arith, lr, low))) j in
          let done : Goal base q u (tick 1 v) = (subst (λ (y : ℕ). J y (tick 1 v)) (sym none) j1, omega (arith, rd.steps, le, cost, ap (λ (y : ℕ). entry_cost w steps D * y) none), λ r kr lr. rd.regs r lr) in
          do_if_yes env (Reg (b + 1)) true (Number 0) End true entry_code End v (Goal base q u) (tested_is ∙ e) (do_end env (tick 1 v) _ (do_end env (tick 1 v) _ done))
      by false e =
          let one = entries-have-one-way s p m la im in
          let x = one.entry q (omega (arith, lq, number)) (test_other (cell (values_on s p m) q) e) in
          do_if_no env (Reg (b + 1)) true (Number 0) End true entry_code End v (Goal base q u) (tested_is ∙ e)
          (do_weaker env entry_code (tick 1 v) (Goal base q u) _ (λ z d. do_end env z _ d)
          (at_entry base q u (tick 1 v) x.0 3 lq a j le x.1 x.2 cost rd.made rd.regs rd.bufs (omega (arith, rd.steps))))

  leaf_visits : Visits env kept (leaf w (position w n) (leaf_at w n) code) b N A (λ q. J (below q)) C
  leaf_visits = record {
    does = λ base q u lq a j le.
        column_do env w.values (values_on s p m) (position w n) b q (unless_zero (is_tight w) (b + 1) entry_code) u (Goal base q u) places.values (omega (arith, lq, number)) (place_is q u.regs lq a)
        (λ v rd. at_value base q u v lq a j le rd (is_tight w) refl);
  }

  loops_visit : Visits env kept (walk w steps n inner) n 1 K0 (λ q. J (below (first_in env LS q))) (work_in env LS C)
  loops_visit =
      nest_visits env kept LS (Number 0) n 1 (leaf w (position w n) (leaf_at w n) code) K0 (λ q. J (below q)) C free at0 record { regs = λ q f g h k. tt; state = λ q a c eb er j. stable (below q) a c eb er j } F.fit leaf_visits

  pub walk_does : (u : State) → J 0 u → Does env (walk w steps n inner) u (λ v. J (length m) v × (v.steps ≤ u.steps + walk_cost env w steps D (length (values_on s p m)) (length m)) × Same kept n u.regs v.regs)
  walk_does u j =
      let start : below (first_in env LS 0) ≡ 0 = ap (λ (y : ℕ). entries_below s p m y) F.from ∙ none_below s p m la im in
      let all : below N ≡ length m = all_below s p m la im N (λ x cx. omega (arith, last-below s p m la im x cx, number)) in
      let stop : below (first_in env LS 1) ≡ length m = ap (λ (y : ℕ). entries_below s p m y) F.to ∙ all in
      let nothing : C 0 ≡ 0 = omega (arith, ap (λ (y : ℕ). entry_cost w steps D * y) (none_below s p m la im)) in
      do_weaker env (walk w steps n inner) u _ _
      (λ v d. (
        subst (λ (y : ℕ). J y v) stop d.0,
        omega (arith, d.1, F.cost C, ap (λ (y : ℕ). entry_cost w steps D * y) all, ap (λ (y : ℕ). leaf_cost w * y) number),
        d.2,
      ))
      (loops_visit.does u.steps 0 u (omega arith) tt (subst (λ (y : ℕ). J y u) (sym start) j) (omega arith))

-- with buffers and running registers that are given for each rank
pub walk_lists : WalkLists
walk_lists env runs w s p m ts steps row col n inner bufs held cost u la im places recovers free lists j =
    walk_does env (stays runs) w s p m ts steps row col n inner (Running runs bufs held) cost la im places recovers free (λ t a c eb er h. (eb ∙ h.0, λ r rt. er r (low r rt (cases_lt r n)) ∙ h.1 r rt)) lists u j
  where
    low : (r : ℕ) → runs r ≡ true → (r < n) ⊎ (n ≤ r) → r < n
    low r t (inl x) = x
    low r t (inr x) = let f = free r x in absurd cc
