use Rattle.std.proofs.Common.{◌≤◌}
use Rattle.us_decl.specs.Limits.{fits_column}
use Rattle.us_parse.specs.Reads.{text_of, size}
use Rattle.us_parse.specs.ReadsParts.{GoesSeries, column_token, has_column, column_fault}
use Rattle.us_parse.proofs.parts.columns.Given as goal

abbrev pub invariant-more : goal.invariant-more
invariant-more l = GoesSeries _ column_token fits_column has_column column_fault (text_of l.fn.cursor) (text_of l.cursor) l.columns × (size (text_of l.cursor) ≤ size (text_of l.fn.cursor))

abbrev pub decreases-more : goal.decreases-more
decreases-more l = size (text_of l.cursor)
