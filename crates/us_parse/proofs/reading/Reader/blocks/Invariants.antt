use Rattle.std.proofs.Common.{◌≡◌, ◌-◌, [], length}
use Rattle.us_parse.specs.Reads.{text_of}
use Rattle.us_parse.specs.ReadsDecls.{GoesBlocks}
use Rattle.us_parse.proofs.reading.Reader.blocks.Given as goal

abbrev pub invariant-more : goal.invariant-more
invariant-more l = GoesBlocks (text_of l.fn.self.cursor) (text_of l.self.cursor) l.fn.names l.names l.conds l.parts × (l.self.names ≡ [])

abbrev pub decreases-more : goal.decreases-more
decreases-more l = 3 - length l.parts
