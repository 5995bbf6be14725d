-- The steps of a recovery read tables that aren't empty, so it doesn't matter what stands in the places of those that are.
use Rattle.std.proofs.Common.{◌≡◌, ℕ, suc, ◌+◌, ◌*◌, ◌<◌, List, [], ◌∷◌, ◌++◌, map, length, refl, sym, ap, ◌∙◌, subst, arith, ℤ, pos, ◌-ℤ◌}
use Rattle.std.specs.Prelude.{slice_index_or, Option, None, Some}
use Rattle.std.proofs.lemmas.List.{get_or-map}
use Rattle.us_code.specs.Run.{Env}
use Rattle.us_code.specs.declared.program.Dim.TheVariants as dim
use Rattle.us_expr.specs.Tree.{Tree}
use Rattle.us_format.specs.Lists.{nth, cell, nat_of, then_do}
use Rattle.us_format.specs.Matrix.{Shape}
use Rattle.us_format.specs.Declaration.{Part}
use Rattle.us_format.specs.Coordinates.{level_range}
use Rattle.us_format.specs.Recover.{Found}
use Rattle.us_known.specs.Table.{tree_at}
use Rattle.us_invert.specs.declared.steps.PlanStep.{PlanStep}
use Rattle.us_invert.specs.declared.steps.PlanStep.TheVariants as plan
use Rattle.us_invert.specs.Plan.{step_at}
use Rattle.us_invert.specs.Recovery.{step_value, tested, walked}
use Rattle.us_gen_recover.specs.declared.places.Coordinate.{Coordinate}
use Rattle.us_gen_recover.specs.declared.places.Table.{Table}
use Rattle.us_gen_recover.specs.Recovery.{table}
use Rattle.us_gen_recover.specs.Rooms.{NamesWithin}
use Rattle.us_gen_recover.specs.Values.{TablesAre, IsReady, IsPlaceOf, AreLaneAndSlot, ReadsACell}
use Rattle.us_gen_walk.specs.Runs.{HasTables}

-- the same, with what the sources hold as tables
abbrev pub in_sources : Env → List Table → Found → Found
in_sources env ts f = record { coords = f.coords; extents = f.extents; tables = map (λ (t : Table). env.sources t.source) ts }

source_at : (env : Env) (ts : List Table) (q : ℕ) → q < length ts → nth (map (λ (t : Table). env.sources t.source) ts) q ≡ env.sources (table ts q).source
source_at env ts q l = get_or-map (λ (t : Table). env.sources t.source) ts q (record { source = 0; extent = dim.Number 0 }) [] l

pub tables_are : (env : Env) (ts : List Table) (f : Found) → HasTables env ts f.extents f.tables → TablesAre env ts (in_sources env ts f)
tables_are env ts f h q l = (sym (source_at env ts q l), (h q l).1)

-- a table with a cell is the one that its source holds
same_table : (env : Env) (ts : List Table) (f : Found) → HasTables env ts f.extents f.tables → (q : ℕ) → q < length ts → 0 < length (nth f.tables q)
    → nth f.tables q ≡ nth (in_sources env ts f).tables q
same_table env ts f h q l some = sym (source_at env ts q l ∙ (h q l).0 (λ e. let none : length (nth f.tables q) ≡ 0 = ap (λ (xs : List ℤ). length xs) e in omega (arith, none, some)))

-- a step has the same value
abbrev SameValue : Found → Found → PlanStep → Type 0
SameValue f g x = (kept : List ℤ) (lo : ℤ) → step_value kept lo f x ≡ step_value kept lo g x

-- and so the walk is the same
walked_same : (s : Shape) (p : Part) (f g : Found) (ts : List Tree) (steps : List PlanStep) (kept : List ℤ) → f.extents ≡ g.extents
    → ((k : ℕ) → k < length steps → SameValue f g (step_at steps k)) → walked s p g ts steps kept ≡ walked s p f ts steps kept
walked_same s p f g [] steps kept e h = refl
walked_same s p f g (t ∷ ts) [] kept e h = refl
walked_same s p f g (t ∷ ts) (x ∷ steps) kept e h =
    ap (λ (n : List ℕ). then_do (tested (level_range s n p t) x (step_value kept (level_range s n p t).lo g x)) (λ z. walked s p g ts steps (kept ++ z ∷ []))) (sym e)
    ∙ ap (λ (v : ℤ). then_do (tested (level_range s f.extents p t) x v) (λ z. walked s p g ts steps (kept ++ z ∷ []))) (sym (h 0 (omega arith) kept (level_range s f.extents p t).lo))
    ∙ onward (tested (level_range s f.extents p t) x (step_value kept (level_range s f.extents p t).lo f x)) (λ z. walked_same s p f g ts steps (kept ++ z ∷ []) e (λ k l. h (suc k) (omega (arith, l))))
  where
    onward : (o : Option ℤ) → ((z : ℤ) → walked s p g ts steps (kept ++ z ∷ []) ≡ walked s p f ts steps (kept ++ z ∷ [])) → then_do o (λ z. walked s p g ts steps (kept ++ z ∷ [])) ≡ then_do o (λ z. walked s p f ts steps (kept ++ z ∷ []))
    onward None ih = refl
    onward (Some z) ih = ih z

module _ (env : Env) (ts : List Table) (f : Found) (has : HasTables env ts f.extents f.tables) where
  abbrev g : Found
  g = in_sources env ts f

  long_by : (xs : List ℤ) (z : ℤ) → IsPlaceOf xs z → 0 < length xs
  long_by xs z h = omega (arith, h.2)

  long_lane : (xs : List ℤ) (n : ℕ) (l t : ℤ) → AreLaneAndSlot xs n l t → 0 < length xs
  long_lane xs n l t h = omega (arith, h.4)

  step_same : (levels : ℕ) (zs : List ℤ) (x : PlanStep) → NamesWithin levels (length ts) x → ReadsACell f zs x → SameValue f g x
  step_same levels zs (plan.Const c) w r kept lo = refl
  step_same levels zs (plan.Level k) w r kept lo = refl
  step_same levels zs (plan.Add a b) w r kept lo = refl
  step_same levels zs (plan.Sub a b) w r kept lo = refl
  step_same levels zs (plan.Join q a k) w r kept lo = refl
  step_same levels zs (plan.Div a k) w r kept lo = refl
  step_same levels zs (plan.Rem a k) w r kept lo = refl
  step_same levels zs (plan.Order q v) w r kept lo =
      ap (λ (xs : List ℤ). cell xs (nat_of (cell kept v))) (same_table env ts f has q w (long_by _ _ r))
  step_same levels zs (plan.Rows q l t) w r kept lo =
      ap (λ (xs : List ℤ). cell xs (nat_of (cell kept l) * slice_index_or f.extents q 0 + nat_of (cell kept t)) -ℤ pos 1) (same_table env ts f has q w (long_lane _ _ _ _ r))

  reads_same : (levels : ℕ) (zs : List ℤ) (x : PlanStep) → NamesWithin levels (length ts) x → ReadsACell f zs x → ReadsACell g zs x
  reads_same levels zs (plan.Const c) w r = tt
  reads_same levels zs (plan.Level k) w r = tt
  reads_same levels zs (plan.Add a b) w r = tt
  reads_same levels zs (plan.Sub a b) w r = tt
  reads_same levels zs (plan.Join q a k) w r = tt
  reads_same levels zs (plan.Div a k) w r = tt
  reads_same levels zs (plan.Rem a k) w r = tt
  reads_same levels zs (plan.Order q v) w r = subst (λ (xs : List ℤ). IsPlaceOf xs (cell zs v)) (same_table env ts f has q w (long_by _ _ r)) r
  reads_same levels zs (plan.Rows q l t) w r =
      subst (λ (xs : List ℤ). AreLaneAndSlot xs (slice_index_or f.extents q 0) (cell zs l) (cell zs t)) (same_table env ts f has q w (long_lane _ _ _ _ r)) r

  pub ready_same : (levels : List Coordinate) (zs : List ℤ) (k : ℕ) (lo : ℤ) (x : PlanStep) → IsReady levels ts f zs k lo x → IsReady levels ts (in_sources env ts f) zs k lo x
  ready_same levels zs k lo x r =
      record { earlier = r.earlier; fits = r.fits; within = r.within; low = r.low; reads = reads_same (length levels) zs x r.within r.reads }

  pub walked_in : (s : Shape) (p : Part) (levels : List Coordinate) (zs : List ℤ) (trees : List Tree) (steps : List PlanStep)
      → ((k : ℕ) → k < length steps → IsReady levels ts f zs k (level_range s f.extents p (tree_at trees k)).lo (step_at steps k))
      → walked s p (in_sources env ts f) trees steps [] ≡ walked s p f trees steps []
  walked_in s p levels zs trees steps ready =
      walked_same s p f g trees steps [] refl (λ k l. step_same (length levels) zs (step_at steps k) (ready k l).within (ready k l).reads)
