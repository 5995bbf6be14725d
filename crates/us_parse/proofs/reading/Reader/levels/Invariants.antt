use Rattle.us_parse.specs.Reads.{text_of, size}
use Rattle.us_parse.specs.ReadsParts.{GoesLevels}
use Rattle.us_parse.proofs.reading.Reader.levels.Given as goal

abbrev pub invariant-more : goal.invariant-more
invariant-more l = GoesLevels (text_of l.fn.self.cursor) (text_of l.self.cursor) l.fn.self.names l.self.names l.levels

abbrev pub decreases-more : goal.decreases-more
decreases-more l = size (text_of l.self.cursor)
