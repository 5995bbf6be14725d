use Rattle.us_parse.specs.Reads.{text_of, size}
use Rattle.us_parse.specs.ReadsBodies.{GoesPacks}
use Rattle.us_parse.proofs.parts.packs.Given as goal

abbrev pub invariant-more : goal.invariant-more
invariant-more l = GoesPacks (text_of l.fn.cursor) (text_of l.cursor) l.packs

abbrev pub decreases-more : goal.decreases-more
decreases-more l = size (text_of l.cursor)
