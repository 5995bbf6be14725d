use Rattle.std.proofs.Common.{◌≡◌, ◌++◌, drop, map}
use Rattle.std.specs.List.{flat_map}
use Rattle.us_code.specs.Plain.{line_tree}
use Rattle.us_code_print.specs.Canon.{dim_line}
use Rattle.us_code_print.proofs.printing.push_dim_lines.Given as goal

abbrev pub invariant-loop-line : goal.invariant-loop-line
invariant-loop-line l = l.out.items ++ flat_map (λ x. dim_line (line_tree x)) (drop l.line-index l.lines) ≡ l.fn.out.items ++ flat_map dim_line (map line_tree l.lines)
