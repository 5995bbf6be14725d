use Rattle.std.proofs.Common.{◌≤◌, ◌+◌, ◌*◌}
use Rattle.us_code.specs.Plain.{tree_of, ◌+++◌}
use Rattle.us_code_table.specs.Table.{Stmts}
use Rattle.us_code_text.specs.Reads.{text_of, size, GoesInto}
use Rattle.us_code_reader.proofs.blocks.+block.Given as goal

abbrev pub decreases-block : goal.decreases-block
decreases-block l = 3 * size (text_of l.reader.now)

abbrev pub decreases-statements : goal.decreases-statements
decreases-statements l = 3 * size (text_of l.reader.now) + 2

abbrev pub decreases-statement : goal.decreases-statement
decreases-statement l = 3 * size (text_of l.reader.now) + 1

abbrev pub decreases-bound : goal.decreases-bound
decreases-bound l = 3 * size (text_of l.reader.now)

abbrev pub decreases-for_statement : goal.decreases-for_statement
decreases-for_statement l = 3 * size (text_of l.reader.now)

abbrev pub decreases-if_statement : goal.decreases-if_statement
decreases-if_statement l = 3 * size (text_of l.reader.now)

abbrev pub decreases-when_statement : goal.decreases-when_statement
decreases-when_statement l = 3 * size (text_of l.reader.now)

abbrev pub decreases-other : goal.decreases-other
decreases-other l = 3 * size (text_of l.reader.now)

abbrev pub invariant-statements-more : goal.invariant-statements-more
invariant-statements-more l = GoesInto Stmts Stmts l.fn.reader l.reader (λ c. tree_of l.block +++ c) × (size (text_of l.reader) ≤ size (text_of l.fn.reader))

abbrev pub decreases-statements-more : goal.decreases-statements-more
decreases-statements-more l = size (text_of l.reader)
