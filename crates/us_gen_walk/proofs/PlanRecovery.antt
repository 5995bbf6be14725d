-- The steps of a part's plan recover each entry.
use Rattle.std.specs.Prelude.{Contains, slice_get, slice_index_or, FitsSigned}
use Rattle.std.proofs.Common.{◌≡◌, ℕ, zero, suc, ◌+◌, ◌*◌, ◌<◌, ◌≤◌, List, [], ◌∷◌, ◌++◌, length, take, sym, refl, ap, ◌∙◌, subst, inl, inr, arith, All, Option, Some, None, ℤ, pos, w64}
use Rattle.std.proofs.lemmas.List.{take_all}
use Rattle.std.proofs.lemmas.List.FromFn.{length-map-range_with_len}
use Rattle.us_expr.specs.declared.ranges.Range.{Range}
use Rattle.us_expr.specs.Tree.{Tree, RowIndex, ColIndex, Variable, node_count}
use Rattle.us_expr.specs.Value.{IsWithin}
use Rattle.us_expr.specs.Range.{LiesIn, IsRangeable, index_range, range_at}
use Rattle.us_format.specs.Lists.{then_do, nth, cell}
use Rattle.us_format.specs.Matrix.{Shape, Entry, IsMatrixOf, indices}
use Rattle.us_format.specs.Declaration.{Query, Reorder, Schedule, Part, axis_of, argument, defines, defined}
use Rattle.us_format.specs.Coordinates.{variable_range, variable_ranges, level_range, span}
use Rattle.us_format.specs.Queries.{extents_of, extent_of}
use Rattle.us_format.specs.Kinds.{kind, levels_from}
use Rattle.us_format.specs.Known.{Itself, Steps, known_of, given_steps}
use Rattle.us_format.specs.Packs.{written}
use Rattle.us_format.specs.Buffers.{table_buffer}
use Rattle.us_format.specs.Recover.{plan_of}
use Rattle.us_format.specs.Rules.{IsLawful}
use Rattle.us_format.specs.Laws.{contents_of}
use Rattle.us_format.proofs.Chain.{StepOk, Chain, chain-given}
use Rattle.us_format.proofs.Climb.{length-written}
use Rattle.us_format.proofs.Lookup.{item-defined}
use Rattle.us_format.proofs.Members.{all-Mem}
use Rattle.us_format.proofs.Order.{Mem}
use Rattle.us_format.proofs.Lawful.{range-is}
use Rattle.us_format_loops.specs.Laws.{found_of}
use Rattle.us_format_loops.proofs.Lawful.{entries-have-one-way, entries-are-recovered}
use Rattle.us_known.specs.Table.{tree_at}
use Rattle.us_invert.specs.declared.steps.PlanStep.{PlanStep}
use Rattle.us_invert.specs.declared.steps.PlanStep.TheVariants as plan
use Rattle.us_invert.specs.Plan.{give_at, step_at, item_at, IsEarlier, IsSuited, HasSteps, IsStepOf}
use Rattle.us_invert.specs.Recovery.{walked, StepsRecover}
use Rattle.us_invert.proofs.Walking.{chain-cut}
use Rattle.us_invert.proofs.PlanRanges.{plan-rangeable}
use Rattle.us_gen_recover.specs.Rooms.{NamesWithin}
use Rattle.us_gen_recover.specs.Values.{HasLow, ReadsACell}
use Rattle.us_gen_recover.specs.Ranges.{IsBelowSpan, HasRange}
use Rattle.us_gen_recover.proofs.StepsLie.{walked_values_fit, ranges_reach}
use Rattle.us_gen_walk.specs.declared.places.Places.{Places}
use Rattle.us_gen_walk.specs.Walk.{coordinates}
use Rattle.us_gen_walk.specs.Runs.{RecoversAt, Recovers}
use Rattle.us_gen_walk.specs.Plans.{HasSmallParts, CoversPart, PlansRecover}
use Rattle.us_gen_walk.proofs.QueryRanges.{get_map, order_range, lane_range, slot_range}

-- an item that is there has a number below the length
some_below : {A : Type 0} (xs : List A) (k : ℕ) (x : A) → slice_get xs k ≡ Some x → k < length xs
some_below [] k x h = absurd cc
some_below (y ∷ ys) zero x h = omega arith
some_below (y ∷ ys) (suc k) x h = omega (arith, some_below ys k x h)

-- the expression of a step
tree_is : (plan : Steps) (k : ℕ) → tree_at (known_of plan) k ≡ (item_at plan k).0
tree_is [] k = refl
tree_is (x ∷ plan) zero = refl
tree_is (x ∷ plan) (suc k) = tree_is plan k

abbrev first_of : Option (ℤ × ℤ) → ℤ
first_of None = pos 0
first_of (Some x) = x.0

abbrev second_of : Option (ℤ × ℤ) → ℤ
second_of None = pos 0
second_of (Some x) = x.1

-- each step of a chain is justified
chain_at : (qs : List Query) (given known : List Tree) (steps : Steps) (k : ℕ) → Chain (λ t. Unit {0}) qs given known steps → k < length steps → (before : List Tree) × StepOk qs given before (item_at steps k).0 (item_at steps k).1
chain_at qs given known [] k c lt = absurd (omega (arith, lt))
chain_at qs given known (x ∷ steps) zero c lt = (known, c.1)
chain_at qs given known (x ∷ steps) (suc k) c lt = chain_at qs given (known ++ x.0 ∷ []) steps k c.2 (omega (arith, lt))

module _ (s : Shape) (p : Part) (m : List Entry) where
  level_at : (es : List Tree) (j k : ℕ) (e : Tree) → slice_get es k ≡ Some e → slice_get (levels_from s (extents_of m s p) p j es) k ≡ Some (record { kind = kind p (j + k); size = span (level_range s (extents_of m s p) p e) })
  level_at [] j k e h = absurd cc
  level_at (x ∷ es) j zero e h =
      let q : x ≡ e = cc in
      let z : j ≡ j + 0 = omega arith in
      ap (λ (t : Tree). Some (record { kind = kind p j; size = span (level_range s (extents_of m s p) p t) })) q ∙ ap (λ (y : ℕ). Some (record { kind = kind p y; size = span (level_range s (extents_of m s p) p e) })) z
  level_at (x ∷ es) j (suc k) e h =
      let z : suc j + k ≡ j + suc k = omega arith in
      level_at es (suc j) k e h ∙ ap (λ (y : ℕ). Some (record { kind = kind p y; size = span (level_range s (extents_of m s p) p e) })) z

module _ (w : Places) (s : Shape) (p : Part) (m : List Entry) (steps : List PlanStep) (row col n : ℕ) (la : IsLawful p) (im : IsMatrixOf s m) (small : HasSmallParts s p m) (covers : CoversPart w s p m n)
    (has : HasSteps (plan_of p.levels p.queries) steps) (recover : StepsRecover (plan_of p.levels p.queries) steps) (row_step : IsStepOf (plan_of p.levels p.queries) RowIndex row) (col_step : IsStepOf (plan_of p.levels p.queries) ColIndex col) where
  abbrev planned : Steps
  planned = plan_of p.levels p.queries

  abbrev ts : List Tree
  ts = known_of planned

  abbrev extents : List ℕ
  extents = (contents_of s p m).extents

  abbrev vars : List Range
  vars = variable_ranges s extents p

  names_are : length vars ≡ p.names
  names_are = length-map-range_with_len (variable_range s extents p.queries) 0 p.names

  -- each step is justified
  justified : (k : ℕ) → k < length planned → (before : List Tree) × StepOk p.queries p.levels before (tree_at ts k) (give_at ts (step_at steps k))
  justified k lt =
      let c = chain_at p.queries (take (length p.levels) p.levels) [] planned k (chain-cut (λ t. Unit {0}) p.queries (take (length p.levels) p.levels) [] [] (given_steps p.levels p.queries (length p.levels)) (chain-given (λ t. Unit {0}) p.levels p.queries (length p.levels) (λ e h. tt))) lt in
      let given : StepOk p.queries p.levels c.0 (item_at planned k).0 (item_at planned k).1 = subst (λ (ls : List Tree). StepOk p.queries ls c.0 (item_at planned k).0 (item_at planned k).1) (take_all (length p.levels) p.levels (omega arith)) c.1 in
      (c.0, subst (λ (t : Tree). StepOk p.queries p.levels c.0 t (give_at ts (step_at steps k))) (sym (tree_is planned k)) (subst (StepOk p.queries p.levels c.0 (item_at planned k).0) (sym (has.gives k lt)) given))

  suited : (x : PlanStep) (t : Tree) (before : List Tree) → StepOk p.queries p.levels before t (give_at ts x) → IsSuited t x
  suited (plan.Const c) t before (inl h) = h
  suited (plan.Const c) t before (inr h) = h
  suited (plan.Level k) t before h = tt
  suited (plan.Add a b) t before h = tt
  suited (plan.Sub a b) t before h = tt
  suited (plan.Join a b k) t before h = tt
  suited (plan.Div a k) t before (inl h) = absurd h
  suited (plan.Div a k) t before (inr h) = (tree_at ts a, h.1)
  suited (plan.Rem a k) t before (inl h) = absurd h
  suited (plan.Rem a k) t before (inr h) = (tree_at ts a, h.1)
  suited (plan.Order q v) t before h = tt
  suited (plan.Rows q l u) t before h = tt

  in_span : (y : Entry) → Contains m y → (x : PlanStep) (t : Tree) (before : List Tree) → StepOk p.queries p.levels before t (give_at ts x) → IsBelowSpan (found_of s p m y) (level_range s extents p t) x
  in_span y cy (plan.Const c) t before h = tt
  in_span y cy (plan.Level k) t before (inl h) =
      (entries-have-one-way s p m la im).within y cy k (record { kind = kind p (0 + k); size = span (level_range s (extents_of m s p) p t) }) (level_at s p m p.levels 0 k t h)
  in_span y cy (plan.Level k) t before (inr h) = absurd h
  in_span y cy (plan.Add a b) t before h = tt
  in_span y cy (plan.Sub a b) t before h = tt
  in_span y cy (plan.Join a b k) t before h = tt
  in_span y cy (plan.Div a k) t before h = tt
  in_span y cy (plan.Rem a k) t before h = tt
  in_span y cy (plan.Order q v) t before h = tt
  in_span y cy (plan.Rows q l u) t before h = tt

  within : (x : PlanStep) (t : Tree) (before : List Tree) → StepOk p.queries p.levels before t (give_at ts x) → NamesWithin (length (coordinates w n)) (length w.tables.items) x
  within (plan.Const c) t before h = tt
  within (plan.Level k) t before (inl h) = omega (arith, some_below p.levels k t h, covers.levels)
  within (plan.Level k) t before (inr h) = absurd h
  within (plan.Add a b) t before h = tt
  within (plan.Sub a b) t before h = tt
  within (plan.Join a b k) t before h = tt
  within (plan.Div a k) t before h = tt
  within (plan.Rem a k) t before h = tt
  within (plan.Order q v) t before (inl h) = absurd h
  within (plan.Order q v) t before (inr (hv, (v1, a, at, r, i))) = omega (arith, some_below p.queries q (Reorder v1 a) at, covers.tables)
  within (plan.Rows q l u) t before (inl h) = absurd h
  within (plan.Rows q l u) t before (inr (hl, hu, (a, b, c, lanes, at, r, r2, i))) = omega (arith, some_below p.queries q (Schedule a b c lanes) at, covers.tables)

  low : (x : PlanStep) (t : Tree) (before : List Tree) → StepOk p.queries p.levels before t (give_at ts x) → HasLow (coordinates w n) (level_range s extents p t).lo x
  low (plan.Const c) t before h = tt
  low (plan.Level k) t before (inl h) = covers.lows k t h
  low (plan.Level k) t before (inr h) = absurd h
  low (plan.Add a b) t before h = tt
  low (plan.Sub a b) t before h = tt
  low (plan.Join a b k) t before h = tt
  low (plan.Div a k) t before h = tt
  low (plan.Rem a k) t before h = tt
  low (plan.Order q v) t before h = tt
  low (plan.Rows q l u) t before h = tt

  -- the range of a variable that a query defines
  variable_lies : (q v : ℕ) (r : Query) (t : Tree) (z : ℤ) (range_of : Range) → slice_get p.queries q ≡ Some r → Mem v (defines r) → variable_range s extents p.queries v ≡ range_of
      → t ≡ Variable v → LiesIn z (level_range s extents p t) → LiesIn z range_of
  variable_lies q v r t z range_of at mv is e l =
      let named = all-Mem (λ (y : ℕ). y < p.names) (defined p.queries) v la.named (item-defined p.queries q r v at mv) in
      let there : LiesIn z (range_at vars v) = subst (λ (y : Tree). LiesIn z (level_range s extents p y)) e l in
      subst (LiesIn z) (range-is s p m la im v named ∙ is) there

  table_is : (q : ℕ) (r : Query) → slice_get p.queries q ≡ Some r → nth (contents_of s p m).tables q ≡ written (table_buffer m s r)
  table_is q r at = get_map (λ (y : Query). written (table_buffer m s y)) p.queries q r [] at

  reads : (y : Entry) (zs : List ℤ) (k : ℕ) → ((j : ℕ) → j < k → LiesIn (cell zs j) (level_range s extents p (tree_at ts j)))
      → (x : PlanStep) (t : Tree) (before : List Tree) → IsEarlier k x → StepOk p.queries p.levels before t (give_at ts x) → ReadsACell (found_of s p m y) zs x
  reads y zs k l (plan.Const c) t before e h = tt
  reads y zs k l (plan.Level j) t before e h = tt
  reads y zs k l (plan.Add a b) t before e h = tt
  reads y zs k l (plan.Sub a b) t before e h = tt
  reads y zs k l (plan.Join a b d) t before e h = tt
  reads y zs k l (plan.Div a d) t before e h = tt
  reads y zs k l (plan.Rem a d) t before e h = tt
  reads y zs k l (plan.Order q v) t before e (inl h) = absurd h
  reads y zs k l (plan.Order q v) t before e (inr (hv, (v1, a, at, r, i))) =
      let long : length (nth (contents_of s p m).tables q) ≡ indices (axis_of a) s = ap (λ (xs : List ℤ). length xs) (table_is q (Reorder v1 a) at) ∙ length-written (table_buffer m s (Reorder v1 a)) in
      ranges_reach.rank (nth (contents_of s p m).tables q) (indices (axis_of a) s) (cell zs v)
      (variable_lies q v1 (Reorder v1 a) (tree_at ts v) (cell zs v) (index_range (indices (axis_of a) s)) at (inl refl) (order_range m s p.queries q v1 a la.once at) r (l v e)) (omega (arith, long))
  reads y zs k l (plan.Rows q x u) t before e (inl h) = absurd h
  reads y zs k l (plan.Rows q x u) t before e (inr (hl, hu, (a, b, c, lanes, at, r, r2, i))) =
      let item : Query = Schedule a b c lanes in
      let long : length (nth (contents_of s p m).tables q) ≡ lanes * extent_of m s item = ap (λ (xs : List ℤ). length xs) (table_is q item at) ∙ length-written (table_buffer m s item) in
      let extent_is : slice_index_or extents q 0 ≡ extent_of m s item = get_map (extent_of m s) p.queries q item 0 at in
      let same : lanes * slice_index_or extents q 0 ≡ lanes * extent_of m s item = ap (λ (y : ℕ). lanes * y) extent_is in
      ranges_reach.lane_and_slot (nth (contents_of s p m).tables q) lanes (slice_index_or extents q 0) (cell zs x) (cell zs u)
      (variable_lies q a item (tree_at ts x) (cell zs x) (index_range lanes) at (inl refl) (lane_range m s p.queries q a b c lanes la.once at) r (l x e.0))
      (variable_lies q b item (tree_at ts u) (cell zs u) (index_range (slice_index_or extents q 0)) at (inr (inl refl)) (slot_range m s p.queries q a b c lanes la.once at ∙ ap index_range (sym extent_is)) r2 (l u e.1))
      (omega (arith, long, same)) (small.tables q)

  -- ---- the walk at an entry

  of_parts : (e : Tree) → node_count e ≤ 32 → IsWithin p.names e → IsRangeable vars e
  of_parts e small_e within_e = record {
    small = small_e;
    within = subst (λ (y : ℕ). IsWithin y e) (sym names_are) within_e;
    low = λ v lt. small.low v (omega (arith, lt, names_are));
    high = λ v lt. small.high v (omega (arith, lt, names_are));
  }

  rangeable : All (λ x. IsRangeable vars x.0) planned
  rangeable =
      plan-rangeable vars p.levels p.queries (of_parts RowIndex (omega arith) tt) (λ k d lt. of_parts (slice_index_or p.levels k d) (small.expressions.levels_are k d lt) (la.levels_valid k d lt))
      (λ k d lt. of_parts (argument (slice_index_or p.queries k d)) (small.expressions.arguments_are k d lt) (la.arguments_valid k d lt))

  ts_long : (xs : Steps) → length (known_of xs) ≡ length xs
  ts_long [] = refl
  ts_long (x ∷ xs) = ap suc (ts_long xs)

  same_length : length steps ≡ length ts
  same_length = has.same_length ∙ sym (ts_long planned)

  has_range : (y : Entry) → Contains m y → (k : ℕ) → k < length steps → HasRange s p (found_of s p m y) k (tree_at ts k) (step_at steps k)
  has_range y cy k lt =
      let below : k < length planned = omega (arith, lt, has.same_length) in
      let j = justified k below in
      record {
        earlier = has.earlier k below;
        suited = suited (step_at steps k) (tree_at ts k) j.0 j.1;
        rangeable = subst (IsRangeable vars) (sym (tree_is planned k)) (rangeable k (RowIndex, Itself 0) below);
        below = in_span y cy (step_at steps k) (tree_at ts k) j.0 j.1;
      }

  at_entry : (y : Entry) → Contains m y → (o : Option (List ℤ)) → walked s p (found_of s p m y) ts steps [] ≡ o → then_do {B = ℤ × ℤ} o (λ zs. Some (cell zs row, cell zs col)) ≡ Some (pos y.i, pos y.j) → RecoversAt w s p m ts steps row col n y
  at_entry y cy None e h = absurd cc
  at_entry y cy (Some zs) e h =
      let pairs : (cell zs row ≡ pos y.i) × (cell zs col ≡ pos y.j) = (ap first_of h, ap second_of h) in
      let lie : (k : ℕ) → k < length steps → LiesIn (cell zs k) (level_range s extents p (tree_at ts k)) × FitsSigned w64 (cell zs k)
      = walked_values_fit s p (found_of s p m y) ts steps zs small.rows small.cols e same_length (has_range y cy) in
      record {
        values = zs;
        walked_are = e;
        ready = λ k lt.
            let below : k < length planned = omega (arith, lt, has.same_length) in
            let j = justified k below in
            record {
              earlier = has.earlier k below;
              fits = (lie k lt).1;
              within = within (step_at steps k) (tree_at ts k) j.0 j.1;
              low = low (step_at steps k) (tree_at ts k) j.0 j.1;
              reads = reads y zs k (λ i li. (lie i (omega (arith, li, lt))).0) (step_at steps k) (tree_at ts k) j.0 (has.earlier k below) j.1;
            };
        row_is = pairs.0;
        col_is = pairs.1;
      }

  pub recovers_all : Recovers w s p m ts steps row col n
  recovers_all = record {
    same_length = same_length;
    row_below = omega (arith, row_step.below, has.same_length);
    col_below = omega (arith, col_step.below, has.same_length);
    each = λ y cy.
        at_entry y cy (walked s p (found_of s p m y) ts steps []) refl (sym (recover s p (found_of s p m y) row col refl row_step col_step) ∙ (entries-are-recovered s p m la im y cy).by_steps);
  }

pub plans_recover : PlansRecover
plans_recover w s p m planned steps row col n la im small covers e has recover row_step col_step = go planned (sym e) has recover row_step col_step
  where
    go : (xs : Steps) → plan_of p.levels p.queries ≡ xs → HasSteps xs steps → StepsRecover xs steps → IsStepOf xs RowIndex row → IsStepOf xs ColIndex col → Recovers w s p m (known_of xs) steps row col n
    go xs q h r a b =
        subst (λ (ys : Steps). HasSteps ys steps → StepsRecover ys steps → IsStepOf ys RowIndex row → IsStepOf ys ColIndex col → Recovers w s p m (known_of ys) steps row col n) q
        (λ h r a b. recovers_all w s p m steps row col n la im small covers h r a b) h r a b
