use Rattle.std.proofs.Common.{◌≤◌, ◌++◌, map}
use Rattle.us_code_table.specs.Table.{DimLines}
use Rattle.us_code_text.specs.Reads.{text_of, size, GoesInto}
use Rattle.us_code.specs.Plain.{line_tree}
use Rattle.us_code_reader.proofs.lines.dim_lines.Given as goal

abbrev pub invariant-more : goal.invariant-more
invariant-more l = GoesInto DimLines DimLines l.fn.reader l.reader (λ xs. map line_tree l.lines ++ xs) × (size (text_of l.reader) ≤ size (text_of l.fn.reader))

abbrev pub decreases-more : goal.decreases-more
decreases-more l = size (text_of l.reader)
