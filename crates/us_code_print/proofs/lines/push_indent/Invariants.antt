use Rattle.std.proofs.Common.{◌≡◌, ◌++◌}
use Rattle.us_code_print.specs.Canon.{indent}
use Rattle.us_code_print.proofs.lines.push_indent.Given as goal

abbrev pub invariant-loop : goal.invariant-loop
invariant-loop l = l.out.items ≡ l.fn.out.items ++ indent l.counter
