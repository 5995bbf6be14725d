use Rattle.us_parse.proofs.Storing.{whole_part}
use Rattle.us_parse.proofs.reading.Reader.whole_part.Goals as goal

pub part-requires : goal.part-requires
part-requires c = let g = c.in_ok-queries.ensures in record { names = (g.0).known; queries = g.1 }

pub returns : goal.returns
returns c = let g = c.in_ok-queries.ensures in whole_part _ _ _ _ c.in_ok-queries.queries _ _ g.0 c.part.ensures
