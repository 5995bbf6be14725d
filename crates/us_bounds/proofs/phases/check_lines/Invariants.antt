use Rattle.std.proofs.Common.{◌+◌, drop, length, map}
use Rattle.us_code.specs.Plain.{line_tree}
use Rattle.us_code.specs.Typing.{with_lines}
use Rattle.us_code.specs.Unbound.{broken_lines}
use Rattle.us_bounds.specs.Seen.{context_of}
use Rattle.us_bounds.specs.Steps.{Ahead}
use Rattle.us_bounds.proofs.phases.check_lines.Given as goal

abbrev pub invariant-loop-line : goal.invariant-loop-line
invariant-loop-line l =
    let rest = drop l.line-index l.lines in
    Ahead (broken_lines (context_of l.fn.table) l.fn.item (map line_tree l.lines)) (broken_lines (context_of l.table) l.next (map line_tree rest)) (l.fn.item + length l.lines) (l.next + length rest) (with_lines (context_of l.fn.table) (map line_tree l.lines)) (with_lines (context_of l.table) (map line_tree rest))
