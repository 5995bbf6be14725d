use Rattle.us_query_loops.proofs.RankLaws.{counts-are-ranked}
use Rattle.us_query_loops.proofs.laws.counts_are_ranked.Goals as goal

pub returns : goal.returns
returns c = counts-are-ranked
