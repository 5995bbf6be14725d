use Rattle.std.proofs.Common.{◌≤◌, ◌++◌}
use Rattle.us_code_table.specs.Table.{Gives, MoreGives}
use Rattle.us_code_text.specs.Reads.{text_of, size, GoesInto}
use Rattle.us_code_reader.proofs.phases.gives.Given as goal

abbrev pub invariant-more : goal.invariant-more
invariant-more l = GoesInto Gives MoreGives l.fn.reader l.reader (λ xs. l.gives ++ xs) × (size (text_of l.reader) ≤ size (text_of l.fn.reader))

abbrev pub decreases-more : goal.decreases-more
decreases-more l = size (text_of l.reader)
