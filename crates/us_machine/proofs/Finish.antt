-- What a run answers, from how its phases end.
use Rattle.std.proofs.Common.{◌≡◌, ◌≢◌, ℕ, ◌<◌, ◌≤◌, ◌^◌, Bool, true, false, cond, nat_le, List, [], ◌∷◌, map, ℤ, refl, sym, subst, arith, Ok, Err, Option, Some, None}
use Rattle.std.proofs.lemmas.Bool.Decides.{nat_tests}
use Rattle.us_code.specs.Plain.{PhaseTree}
use Rattle.us_code.specs.Limits.{items}
use Rattle.us_code.specs.Runs.{World, Ran, Went, Stuck, Outcome, Gave, TooBig, GotStuck, outcome, by_budget, phases, start}
use Rattle.us_code.specs.Runs as runs
use Rattle.us_machine.specs.declared.stop.RunStop.{RunStop}
use Rattle.us_machine.specs.declared.stop.RunStop.TheVariants.{TooLarge, OutOfSteps, Memory}
use Rattle.us_machine.specs.Steps.{Shows, budget_of}
use Rattle.us_machine.specs.Phases.{Ends, count_makes}
use Rattle.us_machine.specs.Answer.{IsAnswer}

le_true : (a b : ℕ) → a ≤ b → nat_le a b ≡ true
le_true a b h = grind (arith, nat_tests)

le_false : (a b : ℕ) → b < a → nat_le a b ≡ false
le_false a b h = grind (arith, nat_tests)

-- an outcome within a budget, if there is one
abbrev pub limited : Option ℕ → Outcome → Outcome
limited None o = o
limited (Some n) o = by_budget n o

pub stops : (o : Option ℕ) (e : RunStop) (r : Ran) (give : List ℕ) (P : World → Type 0) → outcome give r ≢ GotStuck → Ends (budget_of o) (Err e) r P → IsAnswer (Err e) (limited o (outcome give r))
stops o Memory r give P ns h = tt
stops o TooLarge (Went w) give P ns h = absurd h
stops o TooLarge Stuck give P ns h = absurd h
stops None TooLarge (runs.TooLarge n) give P ns h = tt
stops (Some m) TooLarge (runs.TooLarge n) give P ns h = subst (λ (b : Bool). IsAnswer (Err TooLarge) (cond b (TooBig n) runs.OutOfSteps)) (sym (le_true n m (h refl))) tt
stops o OutOfSteps Stuck give P ns h = absurd (ns refl)
stops None OutOfSteps (Went w) give P ns h = absurd (let e : false ≡ true = h.bounded in cc)
stops None OutOfSteps (runs.TooLarge n) give P ns h = absurd (let e : false ≡ true = h.bounded in cc)
stops (Some m) OutOfSteps (Went w) give P ns h = subst (λ (b : Bool). IsAnswer (Err OutOfSteps) (cond b (Gave (map w.bufs give) w.steps) runs.OutOfSteps)) (sym (le_false w.steps m h.over)) tt
stops (Some m) OutOfSteps (runs.TooLarge n) give P ns h = subst (λ (b : Bool). IsAnswer (Err OutOfSteps) (cond b (TooBig n) runs.OutOfSteps)) (sym (le_false n m h.over)) tt

-- more steps than the budget
pub over : (o : Option ℕ) (give : List ℕ) (w : World) (steps n : ℕ) → w.steps ≡ n → Shows (budget_of o) steps n → (budget_of o).bounded ≡ true → (budget_of o).limit < steps → IsAnswer (Err OutOfSteps) (limited o (outcome give (Went w)))
over None give w steps n e s b lt = absurd (let f : false ≡ true = b in cc)
over (Some m) give w steps n e s b lt = subst (λ (c : Bool). IsAnswer (Err OutOfSteps) (cond c (Gave (map w.bufs give) w.steps) runs.OutOfSteps)) (sym (le_false w.steps m (omega (arith, lt, e, s.exact refl)))) tt

pub gives : (o : Option ℕ) (give : List ℕ) (w : World) (steps n : ℕ) (lists : List (List ℤ)) → w.steps ≡ n → Shows (budget_of o) steps n → steps < 2 ^ 64 → ((budget_of o).bounded ≡ true → steps ≤ (budget_of o).limit) → lists ≡ map w.bufs give → IsAnswer (Ok record { buffers = lists; steps = steps }) (limited o (outcome give (Went w)))
gives None give w steps n lists e s small le same = (same, omega (arith, e, s.shown, small))
gives (Some m) give w steps n lists e s small le same =
    subst (λ (c : Bool). IsAnswer (Ok record { buffers = lists; steps = steps }) (cond c (Gave (map w.bufs give) w.steps) runs.OutOfSteps)) (sym (le_true w.steps m (omega (arith, e, s.exact refl, le refl))))
    (same, omega (arith, e, s.exact refl, small))

pub few_makes : (ps : List PhaseTree) → count_makes ps ≤ items ps
few_makes [] = omega arith
few_makes (p ∷ ps) = omega (arith, few_makes ps)
