use Rattle.std.proofs.Common.{◌≤◌, ◌++◌}
use Rattle.us_code_table.specs.Table.{Makes}
use Rattle.us_code_text.specs.Reads.{text_of, size, GoesInto}
use Rattle.us_code_reader.proofs.lines.makes.Given as goal

abbrev pub invariant-more : goal.invariant-more
invariant-more l = GoesInto Makes Makes l.fn.reader l.reader (λ xs. l.makes ++ xs) × (size (text_of l.reader) ≤ size (text_of l.fn.reader))

abbrev pub decreases-more : goal.decreases-more
decreases-more l = size (text_of l.reader)
