use Rattle.std.proofs.Common.{◌≤◌, ◌++◌, map}
use Rattle.us_code_table.specs.Table.{Phases}
use Rattle.us_code_text.specs.Reads.{text_of, size, GoesInto}
use Rattle.us_code.specs.Plain.{phase_tree}
use Rattle.us_code_reader.proofs.phases.phases.Given as goal

abbrev pub invariant-more : goal.invariant-more
invariant-more l = GoesInto Phases Phases l.fn.reader l.reader (λ xs. map phase_tree l.phases ++ xs) × (size (text_of l.reader) ≤ size (text_of l.fn.reader))

abbrev pub decreases-more : goal.decreases-more
decreases-more l = size (text_of l.reader)
