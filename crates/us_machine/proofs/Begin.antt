-- Where a run begins.
use Rattle.std.proofs.Common.{◌≡◌, ℕ, zero, suc, ◌+◌, ◌<◌, ◌≤◌, true, false, List, [], ◌∷◌, length, get_or, ℤ, pos, refl, sym, ap, ap₂, ◌∙◌, subst, arith, inl, inr, add-one}
use Rattle.std.proofs.lemmas.Bool.{cases_lt}
use Rattle.us_machine.specs.Steps.{Shows}
use Rattle.std.proofs.lemmas.List.{get_or_past}
use Rattle.us_raw.specs.declared.region.Segment.{Segment}
use Rattle.us_raw.specs.declared.width.Width.{Width}
use Rattle.us_raw.specs.declared.width.Width.TheVariants.{W8}
use Rattle.us_raw.specs.Plan.{IsPlan, widths_of, no_segment}
use Rattle.us_raw.specs.Region.{Lists}
use Rattle.us_raw.specs.Widths.{HoldsAll}
use Rattle.us_code.specs.Plain.{PhaseTree}
use Rattle.us_code.specs.Limits.{FitsPhases, items}
use Rattle.us_code.specs.Runs.{World, start, at_source}
use Rattle.us_code.specs.Typing.{before, TypedPhases}
use Rattle.us_machine.specs.declared.tables.Tables.{Tables}
use Rattle.us_machine.specs.Starting.{AreSources, IsSourcePlan}
use Rattle.us_machine.specs.Tables.{held, env_of}
use Rattle.us_machine.specs.Walks.{Stands, bufs_of}
use Rattle.us_machine.specs.Phases.{Point, world_at, IsAt, IsWhole, CanRun}
use Rattle.us_machine.proofs.Sources.{source_is}
use Rattle.us_machine.proofs.PhaseSteps.{whole_is}
use Rattle.us_machine.proofs.Finish.{few_makes}

-- widths and lengths of a plan, where it ends
width_at : (plan : List Segment) (i : ℕ) → i < length plan → get_or (widths_of plan) i W8 ≡ (get_or plan i no_segment).width
width_at [] i lt = absurd (omega (arith, lt))
width_at (s ∷ plan) zero lt = refl
width_at (s ∷ plan) (suc i) lt = width_at plan i (omega (arith, lt))

module _ (t : Tables) (sources : List (List ℤ)) (r : Lists) (are : AreSources sources) (plan : IsSourcePlan sources (length sources) t.plan.items)
    (dims : held t.dims ≡ (λ _. 0)) (factors : held t.factors ≡ (λ _. 0)) (segs : held t.segs ≡ (λ _. 0)) (few : IsPlan t.plan.items)
    (lists : r.lists ≡ [] ∷ sources) (widths : r.widths ≡ widths_of t.plan.items) where
  whole : IsWhole t r
  whole = record { long = omega (arith, ap (λ (xs : List (List ℤ)). length xs) lists, plan.long); widths = widths }

  seg_zero : (b : ℕ) → held t.segs b ≡ 0
  seg_zero b = ap (λ (f : ℕ → ℕ). f b) segs

  list_at : (i : ℕ) → get_or r.lists i [] ≡ get_or ([] ∷ sources) i []
  list_at i = ap (λ (xs : List (List ℤ)). get_or xs i []) lists

  len_at : (i : ℕ) → length (get_or ([] ∷ sources) i []) ≡ (get_or t.plan.items i no_segment).len
  len_at zero = sym plan.none
  len_at (suc k) = elim (cases_lt k (length sources)) [
    | inl lt ↦ sym (subst (λ (j : ℕ). (get_or t.plan.items j no_segment).len ≡ length (get_or sources k [])) (add-one k) (plan.lens k lt))
    | inr ge ↦ ap (λ (xs : List ℤ). length xs) (get_or_past sources k [] ge) ∙ ap (λ (s : Segment). s.len) (sym (get_or_past t.plan.items (suc k) no_segment (omega (arith, ge, plan.long))))
  ]

  fit_at : (i : ℕ) → HoldsAll (get_or (widths_of t.plan.items) i W8) (get_or ([] ∷ sources) i [])
  fit_at zero = λ j h. absurd (omega (arith, h))
  fit_at (suc k) = elim (cases_lt k (length sources)) [
    | inl lt ↦ subst (λ (w : Width). HoldsAll w (get_or sources k [])) (sym (width_at t.plan.items (suc k) (omega (arith, lt, plan.long)))) (subst (λ (j : ℕ). HoldsAll (get_or t.plan.items j no_segment).width (get_or sources k [])) (add-one k) (plan.fit k lt))
    | inr ge ↦ subst (λ (xs : List ℤ). HoldsAll (get_or (widths_of t.plan.items) (suc k) W8) xs) (sym (get_or_past sources k [] ge)) (λ j h. absurd (omega (arith, h)))
  ]

  stands : Stands t sources r
  stands = record {
    none = list_at 0;
    given = λ k lt. list_at (k + 1) ∙ (ap (λ (j : ℕ). get_or ([] ∷ sources) j []) (add-one k) ∙ sym (source_is sources k));
    apart = λ a b h e. absurd (omega (arith, h, seg_zero a));
    behind = λ b h. absurd (omega (arith, h, seg_zero b));
    planned = λ i. ap (λ (xs : List ℤ). length xs) (list_at i) ∙ len_at i;
    widths = widths;
    few = few;
    long = whole.long;
    after = omega (arith, plan.long);
    listed = λ b. omega (arith, seg_zero b, plan.long);
    fit = λ i. subst (λ (ws : List Width). HoldsAll (get_or ws i W8) (get_or r.lists i [])) (sym widths) (subst (λ (xs : List ℤ). HoldsAll (get_or (widths_of t.plan.items) i W8) xs) (sym (list_at i)) (fit_at i));
  }

  pub beginning : Point
  beginning = record { region = r; context = before (length sources); regs = λ _. pos 0; count = 0 }

  short_at : (k : ℕ) → length (at_source sources k) ≤ 67108865
  short_at k = omega (arith, are.short k, ap (λ (xs : List ℤ). length xs) (source_is sources k))

  pub at_beginning : (steps : ℕ) → steps ≡ 0 → IsAt t sources steps beginning
  unfolding beginning
  at_beginning steps e = record {
    closed = record { regs = λ x. tt; bufs = λ x. tt; dims = λ x. tt };
    fits = record { regs = λ x. tt; bufs = λ x. tt; dims = λ x. tt };
    stands = subst (λ (l : Lists). Stands t sources l) (sym (whole_is t r whole)) stands;
    sized = record {
      count = refl;
      dims = λ d. omega (arith, ap (λ (f : ℕ → ℕ). f d) dims);
      factors = λ d. omega (arith, ap (λ (f : ℕ → ℕ). f d) factors);
      short = short_at;
      wide = λ b v h i. absurd (let q : false ≡ true = h in cc);
    };
    shows = subst (λ (k : ℕ). Shows t.budget k 0) (sym e) record { shown = refl; exact = λ h. refl };
    fewer = omega (arith, whole.long);
  }

  pub can_run : (steps : ℕ) → steps ≡ 0 → (ps : List PhaseTree) → TypedPhases (before (length sources)) ps → FitsPhases ps → items ps ≤ 65536 → CanRun t sources r steps ps
  unfolding beginning
  can_run steps e ps typed fits most = record {
    point = beginning;
    at = at_beginning steps e;
    here = refl;
    empty = refl;
    whole = whole;
    typed = typed;
    fits = fits;
    room = omega (arith, plan.long, are.few, few_makes ps, most);
  }

  pub start_is : world_at t sources beginning ≡ start sources
  unfolding beginning
  start_is =
      ap (λ (l : Lists). let w : World = record { env = env_of t sources; bufs = bufs_of t l; steps = 0 } in w) (whole_is t r whole)
      ∙ (ap (λ (xs : List (List ℤ)). let w : World = record { env = env_of t sources; bufs = λ b. get_or xs (held t.segs b) []; steps = 0 } in w) lists
      ∙ (ap (λ (f : ℕ → ℕ). let w : World = record { env = env_of t sources; bufs = λ b. get_or ([] ∷ sources) (f b) []; steps = 0 } in w) segs
      ∙ ap₂ (λ (f g : ℕ → ℕ). let w : World = record { env = record { dims = f; factors = g; sources = at_source sources }; bufs = λ b. []; steps = 0 } in w) dims factors))

  pub begins_here : beginning.region ≡ r
  unfolding beginning
  begins_here = refl

  pub begins_empty : beginning.regs ≡ (λ _. pos 0)
  unfolding beginning
  begins_empty = refl

  pub begins_before : beginning.context ≡ before (length sources)
  unfolding beginning
  begins_before = refl
