use Rattle.std.proofs.Common.{◌<◌, ◌++◌}
use Rattle.us_code_table.specs.Table.{Keys, MoreKeys}
use Rattle.us_code_text.specs.Reads.{text_of, size, GoesInto}
use Rattle.us_code_reader.proofs.statements.keys.Given as goal

abbrev pub invariant-more : goal.invariant-more
invariant-more l = GoesInto Keys MoreKeys l.fn.reader l.reader (λ ys. l.keys ++ ys) × (size (text_of l.reader) < size (text_of l.fn.reader))

abbrev pub decreases-more : goal.decreases-more
decreases-more l = size (text_of l.reader)
