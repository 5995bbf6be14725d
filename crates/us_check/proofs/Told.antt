-- What faults tell.
use Rattle.std.specs.Prelude.{Result, Err}
use Rattle.std.proofs.Common.{◌≡◌, ◌∙◌, List}
use Rattle.us_format.specs.Matrix.{Entry}
use Rattle.us_check.specs.declared.broken.Broken.{Broken}
use Rattle.us_check.specs.declared.broken.Broken.TheVariants.{Lengths, TooLarge, Climb, Cell, Long, Memory}
use Rattle.us_check.specs.Checks.{TellsFault}

-- the first reason is told, whichever it is
pub fault-told : (told : Result (List Entry) Broken) (fault : Broken) → told ≡ Err fault → TellsFault told fault
fault-told told (Lengths buffer) e = e
fault-told told TooLarge e = e
fault-told told (Climb part x) e = e
fault-told told (Cell buffer x have want) e = e
fault-told told (Long buffer have want) e = e
fault-told told Memory e = tt

-- the fault of one outcome is that of an equal one
pub fault-same : (told other : Result (List Entry) Broken) (fault : Broken) → other ≡ told → TellsFault told fault → TellsFault other fault
fault-same told other (Lengths buffer) e h = e ∙ h
fault-same told other TooLarge e h = e ∙ h
fault-same told other (Climb part x) e h = e ∙ h
fault-same told other (Cell buffer x have want) e h = e ∙ h
fault-same told other (Long buffer have want) e h = e ∙ h
fault-same told other Memory e h = tt
