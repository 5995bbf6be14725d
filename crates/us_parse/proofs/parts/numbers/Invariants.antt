use Rattle.std.proofs.Common.{◌≤◌}
use Rattle.us_decl.specs.Token.{Number}
use Rattle.us_decl.specs.Limits.{fits_number}
use Rattle.us_parse.specs.Reads.{text_of, size, has_number, number_fault}
use Rattle.us_parse.specs.ReadsParts.{GoesSeries}
use Rattle.us_parse.proofs.parts.numbers.Given as goal

abbrev pub invariant-more : goal.invariant-more
invariant-more l = GoesSeries _ Number fits_number has_number number_fault (text_of l.fn.cursor) (text_of l.cursor) l.numbers × (size (text_of l.cursor) ≤ size (text_of l.fn.cursor))

abbrev pub decreases-more : goal.decreases-more
decreases-more l = size (text_of l.cursor)
