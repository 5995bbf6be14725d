use Rattle.std.proofs.Common.{◌≡◌, map, take}
use Rattle.us_code.specs.Plain.{line_tree}
use Rattle.us_code.proofs.copying.copy_lines.Given as goal

abbrev pub invariant-loop-line : goal.invariant-loop-line
invariant-loop-line l = map line_tree l.copy ≡ map line_tree (take l.line-index l.lines)
