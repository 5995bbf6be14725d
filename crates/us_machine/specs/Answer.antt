-- What a run answers.
use Rattle.std.specs.Prelude.{◌≡◌, ℕ, ◌-◌, ◌^◌, min, ℤ, List, Option, Some, None, Result, Ok, Err}
use Rattle.us_code.specs.Plain.{ProgramTree}
use Rattle.us_code.specs.Runs.{Outcome, Gave, TooBig, GotStuck, run, run_within}
use Rattle.us_code.specs.Runs as runs
use Rattle.us_machine.specs.declared.running.Ran.{Ran}
use Rattle.us_machine.specs.declared.stop.RunStop.{RunStop}
use Rattle.us_machine.specs.declared.stop.RunStop.TheVariants.{TooLarge, OutOfSteps, Memory}

-- the run of a program, with at most so many steps where there is a budget
abbrev pub outcome_of : ProgramTree → List (List ℤ) → Option ℕ → Outcome
outcome_of p sources None = run p sources
outcome_of p sources (Some n) = run_within p sources n

-- the lists and the steps, which stop at 2 ^ 64 - 1; or why there are none
abbrev pub IsAnswer : Result Ran RunStop → Outcome → Type 0
IsAnswer (Ok r) (Gave lists n) = (r.buffers ≡ lists) × (r.steps ≡ min n (2 ^ 64 - 1))
IsAnswer (Ok r) (TooBig n) = ⊥
IsAnswer (Ok r) runs.OutOfSteps = ⊥
IsAnswer (Ok r) GotStuck = ⊥
IsAnswer (Err TooLarge) (Gave lists n) = ⊥
IsAnswer (Err TooLarge) (TooBig n) = Unit {0}
IsAnswer (Err TooLarge) runs.OutOfSteps = ⊥
IsAnswer (Err TooLarge) GotStuck = ⊥
IsAnswer (Err OutOfSteps) (Gave lists n) = ⊥
IsAnswer (Err OutOfSteps) (TooBig n) = ⊥
IsAnswer (Err OutOfSteps) runs.OutOfSteps = Unit {0}
IsAnswer (Err OutOfSteps) GotStuck = ⊥
IsAnswer (Err Memory) outcome = Unit {0}
