-- What a run of a command gives.
use Rattle.us_status.specs.declared.status.Status.{Status}
use Rattle.us_status.specs.Runs.{IsRunOf, Told}
use Rattle.us_top.specs.Commands.{Command}
use Rattle.us_top.specs.Tasks.{task_of}

abbrev pub IsRun : Command → Told → Told → Status → Type 0
IsRun command before now answer = IsRunOf (task_of command) before now answer
