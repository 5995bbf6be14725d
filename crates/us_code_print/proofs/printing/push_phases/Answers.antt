use Rattle.std.proofs.Common.{◌++◌, ap}
use Rattle.us_code.specs.Plain.{phase_tree}
use Rattle.us_code_print.specs.Canon.{phase_lines}
use Rattle.us_code_print.proofs.Printed.{flat_map-map}
use Rattle.us_code_print.proofs.printing.push_phases.Goals as goal

pub loop-phase-init : goal.loop-phase-init
loop-phase-init c = ap (λ w. c.args.out.now.items ++ w) (flat_map-map phase_lines phase_tree c.args.phases.now)
