-- The plan of the sources.
use Rattle.std.proofs.Common.{◌≡◌, ℕ, zero, suc, ◌<◌, ◌≤◌, List, [], length, get_or, ℤ, ap, subst, arith, All, inl, inr, add-one, replicate, pos}
use Rattle.std.proofs.lemmas.Bool.{cases_lt}
use Rattle.std.proofs.lemmas.List.{get_or_default, get_or_past, length-map}
use Rattle.us_raw.specs.declared.region.Segment.{Segment}
use Rattle.us_raw.specs.Plan.{IsPlan, no_segment, zero_lists}
use Rattle.us_machine.specs.Starting.{AreSources, IsSourcePlan}

module _ (sources : List (List ℤ)) (plan : List Segment) (are : AreSources sources) (of : IsSourcePlan sources (length sources) plan) where
  len_small : (i : ℕ) → i < length plan → (get_or plan i no_segment).len ≤ 67108865
  len_small zero lt = omega (arith, of.none)
  len_small (suc k) lt =
      let h : k < length sources = omega (arith, lt, of.long) in
      subst (λ (j : ℕ). (get_or plan j no_segment).len ≤ 67108865) (add-one k) (omega (arith, of.lens k h, are.short k))

  pub is_plan : IsPlan plan
  is_plan = record {
    few = omega (arith, of.long, are.few);
    short = λ i d lt. subst (λ (s : Segment). s.len ≤ 67108865) (get_or_default plan i no_segment d lt) (len_small i lt);
  }

pub are_sources : (sources : List (List ℤ)) → length sources ≤ 4096 → All (λ xs. length xs ≤ 67108864) sources → AreSources sources
are_sources sources few all = record { few = few; short = at sources all }
  where
    at : (xs : List (List ℤ)) → All (λ ys. length ys ≤ 67108864) xs → (k : ℕ) → length (get_or xs k []) ≤ 67108864
    at xs h k = elim (cases_lt k (length xs)) [
      | inl lt ↦ h k [] lt
      | inr ge ↦ omega (arith, ap (λ (ys : List ℤ). length ys) (get_or_past xs k [] ge))
    ]

pub zeros_long : (plan : List Segment) → length (zero_lists plan) ≡ length plan
zeros_long plan = length-map plan (λ (s : Segment). replicate s.len (pos 0))
