use Rattle.std.proofs.Common.{◌≡◌, ◌++◌, drop, flat_map}
use Rattle.us_script.specs.Text.{script_text, step_line}
use Rattle.us_script.proofs.printing.print_script.Given as goal

abbrev pub invariant-loop-step : goal.invariant-loop-step
invariant-loop-step l = l.out.items ++ flat_map step_line (drop l.step-index l.steps) ≡ script_text l.script
