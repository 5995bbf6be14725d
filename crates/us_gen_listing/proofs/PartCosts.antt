-- The steps for one part: those of its dims and of its loops.
use Rattle.std.proofs.Common.{◌≡◌, ℕ, suc, ◌+◌, ◌*◌, ◌<◌, ◌≤◌, List, [], ◌∷◌, length, Bool, true, false, cond, refl, ap, subst, sym, arith, mul-le-mul_right, mul-le-mul_left, length-append}
use Rattle.std.specs.List.{sum}
use Rattle.us_expr.specs.Tree.{Tree}
use Rattle.us_format.specs.Lists.{nth}
use Rattle.us_format.specs.Matrix.{Shape, Entry, IsMatrixOf}
use Rattle.us_format.specs.Declaration.{Part}
use Rattle.us_format.specs.Kinds.{Level, kind, levels_from}
use Rattle.us_format.specs.Positions.{Row, counts, rows_of}
use Rattle.us_format.specs.Queries.{extents_of}
use Rattle.us_format.specs.Buffers.{part_buffers}
use Rattle.us_format.specs.Reading.{extent_count}
use Rattle.us_format.specs.Rules.{IsLawful, ArePacksLawful}
use Rattle.us_format.specs.Laws.{cells_of, unpacked_size}
use Rattle.us_format_loops.specs.Laws.{levels_on, values_on}
use Rattle.us_format_loops.specs.Nodes.{count_after}
use Rattle.us_format_loops.proofs.Filled.{values-number}
use Rattle.us_code.specs.declared.program.Dim.{Dim}
use Rattle.us_code.specs.declared.program.Dim.TheVariants as dim
use Rattle.us_code.specs.Run.{Env}
use Rattle.us_invert.specs.declared.steps.PlanStep.{PlanStep}
use Rattle.us_invert.specs.declared.steps.PlanStep.TheVariants as plan
use Rattle.us_invert.specs.Plan.{AreSmall}
use Rattle.us_gen_recover.specs.declared.places.Table.{Table}
use Rattle.us_gen_recover.specs.Recovery.{names, names_in}
use Rattle.us_gen_walk.specs.declared.places.Column.{Column}
use Rattle.us_gen_walk.specs.declared.places.Column.TheVariants as column
use Rattle.us_gen_walk.specs.declared.places.Loop.{Loop}
use Rattle.us_gen_walk.specs.declared.places.Loop.TheVariants as over
use Rattle.us_gen_walk.specs.declared.places.Places.{Places}
use Rattle.us_gen_walk.specs.Walk.{is_tight, leaf_at}
use Rattle.us_gen_walk.specs.Walk as walks
use Rattle.us_gen_walk.specs.Runs.{HasPlaces, leaf_cost, entry_cost, walk_cost, loop_cost}
use Rattle.us_gen_places.specs.declared.start.PartStart.{PartStart}
use Rattle.us_gen_places.specs.declared.levels.LevelPlace.{LevelPlace}
use Rattle.us_gen_places.specs.declared.levels.LevelPlace.TheVariants.{InFront, Behind}
use Rattle.us_gen_places.specs.Places.{level_place, with_loop, loops_from, tables_from}
use Rattle.us_gen_places.specs.Holds.{IsOrderly, held_by}
use Rattle.us_gen_places.proofs.Covering.{places-cover}
use Rattle.us_gen_places.proofs.TablesHeld.{tables-number}
use Rattle.us_gen_unpack.specs.declared.listing.PartWalk.{PartWalk}
use Rattle.us_gen_unpack.specs.Runs.{Listed}
use Rattle.us_gen_opening.specs.declared.parts.Extent.{Extent}
use Rattle.us_gen_opening.specs.declared.parts.Opening.{Opening}
use Rattle.us_gen_opening.specs.Opening.{with_extent, extents_from, source_of}
use Rattle.us_gen_opening.specs.Opening as opening
use Rattle.us_gen_opening.specs.Runs.{count_cost, nodes_cost, part_cost}
use Rattle.us_gen_opening.specs.Tells.{IsOpeningOf}
use Rattle.us_gen_parts.specs.Walks.{IsWalkOf}
use Rattle.us_gen_parts.proofs.EntriesFew.{entries-counted, last-counted}
use Rattle.us_gen_parts.proofs.PlanFew.{plan-few}
use Rattle.us_gen_parts.proofs.RoomFew.{loops-long, slots-long}
use Rattle.us_gen_listing.proofs.LoopCosts.{read-few, below-counted, loops-few}
use Rattle.us_gen_listing.proofs.Lengths.{values-long}

-- ---- sums of products

combine : (loop leaf n_last e n W T k : ℕ) → loop ≤ 10 * (k * T) → k ≤ W → leaf ≤ 3 → n_last ≤ T → e ≤ 75 * W → n + n ≤ T → 1 ≤ W → loop + leaf * n_last + e * n ≤ 51 * (W * T)
combine loop leaf n_last e n W T k a b c d f g h =
    let loops : k * T ≤ W * T = mul-le-mul_right T b in
    let leaves : leaf * n_last ≤ 3 * n_last = mul-le-mul_right n_last c in
    let entries : e * n ≤ (75 * W) * n = mul-le-mul_right n f in
    let twice : W * (n + n) ≤ W * T = mul-le-mul_left W g in
    let once : 1 * T ≤ W * T = mul-le-mul_right T h in
    omega (arith, a, d, loops, leaves, entries, twice, once)

combine_dims : (extents nodes count L Q T : ℕ) → extents ≤ Q → nodes ≤ 2 * L → count ≤ 2 + 5 * T → 1 ≤ L → 1 ≤ T → 5 * extents + nodes + count ≤ 9 * ((L + Q) * T)
combine_dims extents nodes count L Q T a b c l t =
    let queries : Q * 1 ≤ Q * T = mul-le-mul_left Q t in
    let levels : L * 1 ≤ L * T = mul-le-mul_left L t in
    let once : 1 * T ≤ L * T = mul-le-mul_right T l in
    omega (arith, a, b, c, l, queries, levels, once)

-- ---- names and lengths

step_few : (x : PlanStep) → names x ≤ 2
step_few (plan.Const c) = omega arith
step_few (plan.Level k) = omega arith
step_few (plan.Add a b) = omega arith
step_few (plan.Sub a b) = omega arith
step_few (plan.Join q r k) = omega arith
step_few (plan.Div a k) = omega arith
step_few (plan.Rem a k) = omega arith
step_few (plan.Order q v) = omega arith
step_few (plan.Rows q l t) = omega arith

names_few : (steps : List PlanStep) → names_in steps ≤ 2 * length steps
names_few [] = omega arith
names_few (x ∷ steps) = omega (arith, step_few x, names_few steps)

leaf_few : (w : Places) → leaf_cost w ≤ 3
leaf_few w = go (is_tight w)
  where
    go : (b : Bool) → cond b 2 3 ≤ 3
    go true = omega arith
    go false = omega arith

levels_number : (s : Shape) (ns : List ℕ) (p : Part) (k : ℕ) (es : List Tree) → length (levels_from s ns p k es) ≡ length es
levels_number s ns p k [] = refl
levels_number s ns p k (e ∷ es) = ap suc (levels_number s ns p (suc k) es)

counted : (ls : List Level) (n : ℕ) (rows : List Row) → 1 ≤ length ls → count_after ls n rows ≤ sum (counts ls n rows)
counted [] n rows h = absurd (omega (arith, h))
counted (l ∷ ls) n rows h = below-counted l ls n rows

pub extents-number : (k : ℕ) (ts : List Table) → length (extents_from k ts) ≤ length ts
extents-number k [] = omega arith
extents-number k (t ∷ ts) = go t.extent (extents-number k ts) (extents-number (k + 1) ts)
  where
    go : (e : Dim) → length (extents_from k ts) ≤ length ts → length (extents_from (k + 1) ts) ≤ length ts → length (with_extent k e (λ j. extents_from j ts)) ≤ suc (length ts)
    go (dim.Name d) here next = omega (arith, next)
    go (dim.Number n) here next = omega (arith, here)
    go (dim.Len j) here next = omega (arith, here)

loops_number : (a : PartStart) (s : Shape) (p : Part) (k : ℕ) (es : List Tree) → length (loops_from a s p k es) ≤ length es
loops_number a s p k [] = omega arith
loops_number a s p k (e ∷ es) = go (level_place a s p k e (kind p k)) (loops_number a s p (suc k) es)
  where
    go : (x : LevelPlace) → length (loops_from a s p (suc k) es) ≤ length es → length (with_loop x (loops_from a s p (suc k) es)) ≤ suc (length es)
    go (InFront l) h = omega (arith, h)
    go (Behind y) h = omega (arith, h)

nodes_few : (ls : List Loop) → nodes_cost ls ≤ 2 * length ls
nodes_few [] = omega arith
nodes_few (over.Full size low ∷ ls) = omega (arith, nodes_few ls)
nodes_few (over.Nodes k more nodes crd low ∷ ls) = omega (arith, nodes_few ls, read-few crd)

count_few : (env : Env) (c : Column) (n_last n T : ℕ) → length (env.sources (source_of c)) ≤ T → n_last ≤ T → n ≤ T → count_cost env c n_last n ≤ 2 + 5 * T
count_few env (column.Own k) n_last n T a b c = omega (arith, b, c)
count_few env (column.Packed k w digit) n_last n T a b c = omega (arith, a, b, c)

-- ---- one part

module _ (s : Shape) (p : Part) (m : List Entry) (T : ℕ) (la : IsLawful p) (im : IsMatrixOf s m) (some : 1 ≤ length p.levels) (within : unpacked_size s p m + 1 ≤ T) where
  last_few : length (values_on s p m) ≤ T
  last_few = omega (arith, within, values-number s p m la im, last-counted (levels_on s p m) 1 (rows_of m s p))

  counts_few : sum (counts (levels_on s p m) 1 (rows_of m s p)) ≤ T
  counts_few = omega (arith, within)

  entries_twice : length m + length m ≤ T
  entries_twice =
      omega (
        arith,
        within,
        entries-counted s p m la im,
        last-counted (levels_on s p m) 1 (rows_of m s p),
        counted (levels_on s p m) 1 (rows_of m s p) (omega (arith, some, levels_number s (extents_of m s p) p 0 p.levels)),
      )

  -- the loops
  pub list-few : (env : Env) (a : PartStart) (x : PartWalk) → HasPlaces env x.places s p m → IsWalkOf a s p x → IsOrderly p → AreSmall p.levels p.queries
      → walk_cost env x.places x.steps.items 5 (length (values_on s p m)) (length m) ≤ 51 * ((length p.levels + length p.queries) * T)
  list-few env a x places walk orderly small =
      let covers = places-cover a s p [] x.places 0 orderly walk.places in
      let both : length x.places.loops.items + length x.places.slots.items ≡ length p.levels =
      omega (
        arith,
        covers.levels,
        length-append (walks.loop_coordinates x.places.loops.items 0) (walks.slot_coordinates x.places.slots.items (leaf_at x.places 0 + 2)),
        loops-long x.places.loops.items 0,
        slots-long x.places.slots.items (leaf_at x.places 0 + 2),
      ) in
      let steps : length x.steps.items ≤ 32 * (length p.levels + length p.queries) + 2 = omega (arith, walk.steps.same_length, plan-few p.levels p.queries small) in
      combine (loop_cost env x.places.loops.items 1) (leaf_cost x.places) (length (values_on s p m)) (entry_cost x.places x.steps.items 5) (length m) (length p.levels + length p.queries) T (length x.places.loops.items)
      (loops-few env x.places.slots.items T x.places.loops.items (levels_on s p m) 1 (rows_of m s p) places.levels (omega (arith, within)) counts_few)
      (omega (arith, both)) (leaf_few x.places) last_few (omega (arith, both, steps, names_few x.steps.items, some)) entries_twice (omega (arith, some))

  -- the dims
  pub dims-few : (env : Env) (a : PartStart) (o : Opening) (listed : Listed) → listed.part ≡ p → listed.entries ≡ m → IsOpeningOf a s p o → ArePacksLawful p
      → ((k : ℕ) → k < length (part_buffers s p m) → env.sources (a.source + k) ≡ nth (held_by s p m) k) → cells_of (part_buffers s p m) ≤ T
      → part_cost env s (record { opening = o; listed = listed }) ≤ 9 * ((length p.levels + length p.queries) * T)
  dims-few env a o listed same_part same_entries is lawful sources long =
      let extents : length o.extents.items ≤ length p.queries =
      omega (
        arith,
        ap (λ (es : List Extent). length es) is.extents,
        extents-number a.source (tables_from a (extent_count p) 0 p.queries),
        tables-number a (extent_count p) 0 p.queries,
      ) in
      let nodes : nodes_cost o.loops.items ≤ 2 * length p.levels =
      omega (arith, nodes_few o.loops.items, ap (λ (ls : List Loop). length ls) is.loops, loops_number a s p 0 p.levels) in
      let source : length (env.sources (source_of o.values)) ≤ T =
      subst (λ (c : Column). length (env.sources (source_of c)) ≤ T) (sym is.values) (values-long env a s p m T lawful sources long) in
      let count : count_cost env o.values (length (values_on s p m)) (length m) ≤ 2 + 5 * T = count_few env o.values (length (values_on s p m)) (length m) T source last_few (omega (arith, entries_twice)) in
      let same : count_cost env o.values (length (values_on s listed.part listed.entries)) (length listed.entries) ≤ 2 + 5 * T =
      subst (λ (q : Part). count_cost env o.values (length (values_on s q listed.entries)) (length listed.entries) ≤ 2 + 5 * T) (sym same_part)
      (subst (λ (es : List Entry). count_cost env o.values (length (values_on s p es)) (length es) ≤ 2 + 5 * T) (sym same_entries) count) in
      go (opening.is_tight o) extents nodes same
    where
      go : (b : Bool) → length o.extents.items ≤ length p.queries → nodes_cost o.loops.items ≤ 2 * length p.levels
          → count_cost env o.values (length (values_on s listed.part listed.entries)) (length listed.entries) ≤ 2 + 5 * T
          → 5 * length o.extents.items + nodes_cost o.loops.items + cond b 0 (count_cost env o.values (length (values_on s listed.part listed.entries)) (length listed.entries))
          ≤ 9 * ((length p.levels + length p.queries) * T)
      go true a b c = combine_dims (length o.extents.items) (nodes_cost o.loops.items) 0 (length p.levels) (length p.queries) T a b (omega arith) some (omega (arith, within))
      go false a b c =
          combine_dims (length o.extents.items) (nodes_cost o.loops.items) (count_cost env o.values (length (values_on s listed.part listed.entries)) (length listed.entries)) (length p.levels) (length p.queries) T a b c some (omega (arith, within))
