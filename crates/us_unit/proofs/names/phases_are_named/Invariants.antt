use Rattle.std.proofs.Common.{drop, map}
use Rattle.us_code.specs.Plain.{phase_tree}
use Rattle.us_code_print.specs.ReadBack.{NamedPhases}
use Rattle.us_unit.proofs.names.phases_are_named.Given as goal

abbrev pub invariant-loop-phase : goal.invariant-loop-phase
invariant-loop-phase l = NamedPhases (map phase_tree (drop l.phase-index l.phases)) → NamedPhases (map phase_tree l.phases)
