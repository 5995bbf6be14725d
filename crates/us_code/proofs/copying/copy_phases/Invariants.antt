use Rattle.std.proofs.Common.{◌≡◌, map, take}
use Rattle.us_code.specs.Plain.{phase_tree}
use Rattle.us_code.proofs.copying.copy_phases.Given as goal

abbrev pub invariant-loop-phase : goal.invariant-loop-phase
invariant-loop-phase l = map phase_tree l.copy ≡ map phase_tree (take l.phase-index l.phases)
