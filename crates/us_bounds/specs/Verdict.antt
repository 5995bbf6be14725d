-- What the check of a program answers.
use Rattle.std.specs.Prelude.{◌≡◌, ℕ, Option, Some, None, Result, Ok, Err}
use Rattle.us_code.specs.declared.program.Program.{Program}
use Rattle.us_code.specs.Plain.{program_tree}
use Rattle.us_code.specs.Typing.{TypedProgram}
use Rattle.us_code.specs.Unbound as unbound
use Rattle.us_code.specs.Unbound.{first_unbound}
use Rattle.us_bounds.specs.declared.stop.Stop.{Stop}
use Rattle.us_bounds.specs.declared.stop.Stop.TheVariants.{Broken}
use Rattle.us_bounds.specs.declared.stop.Stop.TheVariants as stop
use Rattle.us_bounds.specs.declared.fault.VerifyFault.{VerifyFault}
use Rattle.us_bounds.specs.declared.fault.VerifyFault.TheVariants.{Unbound, Memory}

-- the answer for a phase, from that for its items
abbrev pub verdict_at : {A : Type 0} → ℕ → Result A Stop → Result A VerifyFault
verdict_at n (Ok x) = Ok x
verdict_at n (Err (Broken item rule)) = Err (Unbound record { phase = n; stmt = item; rule = rule })
verdict_at n (Err stop.Memory) = Err Memory

-- a check that answers the first unbound item `o`
abbrev pub Verdicts : {A : Type 0} → Result A VerifyFault → Option unbound.Unbound → Type 0
Verdicts (Ok x) o = o ≡ None
Verdicts (Err (Unbound u)) o = o ≡ Some record { phase = u.phase; item = u.stmt; rule = u.rule }
Verdicts (Err Memory) o = Unit {0}

pub record IsVerdict {A : Type 0} (r : Result A VerifyFault) (o : Option unbound.Unbound) : Type 0 where
  pub verdict : Verdicts r o

-- a verified program is the program that was given, and keeps the rules; else the fault is the first item that breaks one
abbrev pub IsVerified : Program → Result Program VerifyFault → Type 0
IsVerified p (Ok v) = (v ≡ p) × TypedProgram (program_tree p)
IsVerified p (Err (Unbound u)) =
    (first_unbound (program_tree p) ≡ Some record { phase = u.phase; item = u.stmt; rule = u.rule }) × ¬ TypedProgram (program_tree p)
IsVerified p (Err Memory) = Unit {0}
