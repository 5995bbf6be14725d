use Rattle.std.proofs.Common.{drop, map}
use Rattle.us_code.specs.Plain.{line_tree}
use Rattle.us_code_print.specs.ReadBack.{NamedLines}
use Rattle.us_unit.proofs.names.lines_are_named.Given as goal

abbrev pub invariant-loop-line : goal.invariant-loop-line
invariant-loop-line l = NamedLines (map line_tree (drop l.line-index l.lines)) → NamedLines (map line_tree l.lines)
