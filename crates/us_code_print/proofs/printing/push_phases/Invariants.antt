use Rattle.std.proofs.Common.{◌≡◌, ◌++◌, drop, map}
use Rattle.std.specs.List.{flat_map}
use Rattle.us_code.specs.Plain.{phase_tree}
use Rattle.us_code_print.specs.Canon.{phase_lines}
use Rattle.us_code_print.proofs.printing.push_phases.Given as goal

abbrev pub invariant-loop-phase : goal.invariant-loop-phase
invariant-loop-phase l = l.out.items ++ flat_map (λ p. phase_lines (phase_tree p)) (drop l.phase-index l.phases) ≡ l.fn.out.items ++ flat_map phase_lines (map phase_tree l.phases)
