-- Counts of faults, for each kind of call and each file name.
use Rattle.std.specs.Prelude.{ℕ, ◌+◌, ◌-◌, ◌^◌, ◌≤◌, min, List, Result, IsErrOf}
use Rattle.us_outside.specs.declared.outside.Call.{Call}
use Rattle.us_outside.specs.declared.outside.OutsideFault.{OutsideFault}
use Rattle.us_outside.specs.declared.outside.OutsideFault.TheVariants.{Failed}

abbrev pub Faults : Type 0
Faults = Call → List ℕ → ℕ

-- the count rose, or stands at its end
abbrev pub Rose : ℕ → ℕ → Type 0
Rose before now = min (before + 1) (2 ^ 64 - 1) ≤ now

-- no count fell
abbrev pub NeverFell : Faults → Faults → Type 0
NeverFell before now = (call : Call) (name : List ℕ) → before call name ≤ now call name

-- no count fell, and `Failed` is answered only where the count of this kind of call and this name rose
pub record HasCause {T : Type 0} (before now : Faults) (call : Call) (name : List ℕ) (result : Result T OutsideFault) : Type 0 where
  pub later : NeverFell before now
  pub failed : IsErrOf result Failed → Rose (before call name) (now call name)
