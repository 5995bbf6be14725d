-- The steps of a part's plan name levels and queries that there are.
use Rattle.std.specs.Prelude.{slice_get}
use Rattle.std.proofs.Common.{◌≡◌, ℕ, zero, suc, ◌<◌, List, [], ◌∷◌, ◌++◌, length, take, sym, subst, inl, inr, arith, All, Some}
use Rattle.std.proofs.lemmas.List.{take_all, get_or_default}
use Rattle.us_expr.specs.Tree.{Tree}
use Rattle.us_format.specs.Declaration.{Query, Reorder, Schedule, Part}
use Rattle.us_format.specs.Known.{Steps, known_of, given_steps}
use Rattle.us_format.specs.Recover.{plan_of}
use Rattle.us_format.proofs.Chain.{StepOk, Chain, chain-given}
use Rattle.us_invert.specs.declared.steps.PlanStep.{PlanStep}
use Rattle.us_invert.specs.declared.steps.PlanStep.TheVariants as plan
use Rattle.us_invert.specs.Plan.{give_at, step_at, item_at, HasSteps}
use Rattle.us_invert.proofs.Walking.{chain-cut}
use Rattle.us_gen_recover.specs.Rooms.{NamesWithin}

some_below : {A : Type 0} (xs : List A) (k : ℕ) (x : A) → slice_get xs k ≡ Some x → k < length xs
some_below [] k x h = absurd cc
some_below (y ∷ ys) zero x h = omega arith
some_below (y ∷ ys) (suc k) x h = omega (arith, some_below ys k x h)

-- each step of a chain is justified
chain_at : (qs : List Query) (given known : List Tree) (steps : Steps) (k : ℕ) → Chain (λ t. Unit {0}) qs given known steps → k < length steps → (before : List Tree) × StepOk qs given before (item_at steps k).0 (item_at steps k).1
chain_at qs given known [] k c lt = absurd (omega (arith, lt))
chain_at qs given known (x ∷ steps) zero c lt = (known, c.1)
chain_at qs given known (x ∷ steps) (suc k) c lt = chain_at qs given (known ++ x.0 ∷ []) steps k c.2 (omega (arith, lt))

module _ (p : Part) (steps : List PlanStep) (has : HasSteps (plan_of p.levels p.queries) steps) (levels queries : ℕ) (as_levels : levels ≡ length p.levels) (as_queries : queries ≡ length p.queries) where
  abbrev planned : Steps
  planned = plan_of p.levels p.queries

  abbrev ts : List Tree
  ts = known_of planned

  justified : (k : ℕ) → k < length planned → (before : List Tree) × StepOk p.queries p.levels before (item_at planned k).0 (give_at ts (step_at steps k))
  justified k lt =
      let c = chain_at p.queries (take (length p.levels) p.levels) [] planned k (chain-cut (λ t. Unit {0}) p.queries (take (length p.levels) p.levels) [] [] (given_steps p.levels p.queries (length p.levels)) (chain-given (λ t. Unit {0}) p.levels p.queries (length p.levels) (λ e h. tt))) lt in
      let given : StepOk p.queries p.levels c.0 (item_at planned k).0 (item_at planned k).1 = subst (λ (ls : List Tree). StepOk p.queries ls c.0 (item_at planned k).0 (item_at planned k).1) (take_all (length p.levels) p.levels (omega arith)) c.1 in
      (c.0, subst (StepOk p.queries p.levels c.0 (item_at planned k).0) (sym (has.gives k lt)) given)

  within : (x : PlanStep) (t : Tree) (before : List Tree) → StepOk p.queries p.levels before t (give_at ts x) → NamesWithin levels queries x
  within (plan.Const c) t before h = tt
  within (plan.Level k) t before (inl h) = omega (arith, some_below p.levels k t h, as_levels)
  within (plan.Level k) t before (inr h) = absurd h
  within (plan.Add a b) t before h = tt
  within (plan.Sub a b) t before h = tt
  within (plan.Join a b k) t before h = tt
  within (plan.Div a k) t before h = tt
  within (plan.Rem a k) t before h = tt
  within (plan.Order q v) t before (inl h) = absurd h
  within (plan.Order q v) t before (inr (hv, (v1, a, at, r, i))) = omega (arith, some_below p.queries q (Reorder v1 a) at, as_queries)
  within (plan.Rows q l u) t before (inl h) = absurd h
  within (plan.Rows q l u) t before (inr (hl, hu, (a, b, c, lanes, at, r, r2, i))) = omega (arith, some_below p.queries q (Schedule a b c lanes) at, as_queries)

  pub names-there : All (NamesWithin levels queries) steps
  names-there k x lt =
      let j = justified k (omega (arith, lt, has.same_length)) in
      subst (NamesWithin levels queries) (get_or_default steps k (plan.Const 0) x lt) (within (step_at steps k) (item_at planned k).0 j.0 j.1)
