use Rattle.us_parse.specs.Reads.{text_of, size}
use Rattle.us_parse.specs.ReadsQueries.{GoesQueries}
use Rattle.us_parse.proofs.reading.Reader.queries.Given as goal

abbrev pub invariant-loop-queries : goal.invariant-loop-queries
invariant-loop-queries l = GoesQueries (text_of l.fn.self.cursor) (text_of l.self.cursor) l.self.names l.queries

abbrev pub decreases-loop-queries : goal.decreases-loop-queries
decreases-loop-queries l = size (text_of l.self.cursor)
