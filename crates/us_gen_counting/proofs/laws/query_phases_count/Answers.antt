use Rattle.us_gen_counting.proofs.QueryRuns.{query_counts}
use Rattle.us_gen_counting.proofs.laws.query_phases_count.Goals as goal

pub returns : goal.returns
returns c = query_counts
