use Rattle.us_parse.specs.Reads.{text_of, size}
use Rattle.us_parse.specs.Parses.{GoesLibrary, tokens_of}
use Rattle.us_parse.proofs.parsing.read_library.Given as goal

abbrev pub invariant-more : goal.invariant-more
invariant-more l = GoesLibrary (tokens_of l.fn.bytes) (text_of l.reader.cursor) l.library

abbrev pub decreases-more : goal.decreases-more
decreases-more l = size (text_of l.reader.cursor)
