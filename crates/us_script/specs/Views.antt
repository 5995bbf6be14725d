-- What reading a script answers.
use Rattle.std.specs.Prelude.{◌≡◌, List, [], ◌∷◌, ◌++◌, Result, Ok, Err}
use Rattle.us_script.specs.declared.step.Step.{Step}
use Rattle.us_script.specs.declared.fault.ScriptFault.{ScriptFault}
use Rattle.us_script.specs.declared.fault.ScriptFault.TheVariants.{Memory}

-- an error other than want of memory is the fault of reading
abbrev pub IsFaultOf : {A : Type 0} → ScriptFault → Result A ScriptFault → Type 0
IsFaultOf Memory read = Unit {0}
IsFaultOf fault read = read ≡ Err fault

-- what was read is what reading gives, or memory ran out
abbrev pub Gives : {A : Type 0} → Result A ScriptFault → Result A ScriptFault → Type 0
Gives (Ok x) read = read ≡ Ok x
Gives (Err fault) read = IsFaultOf fault read

-- the step that reading gives was put behind those before, or the fault is that of reading, or memory ran out
abbrev pub Takes : Result (Unit {0}) ScriptFault → Result Step ScriptFault → List Step → List Step → Type 0
Takes (Ok _) read old new = (step : Step) × (read ≡ Ok step) × (new ≡ old ++ step ∷ [])
Takes (Err fault) read old new = IsFaultOf fault read
