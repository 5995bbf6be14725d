use Rattle.us_query_loops.proofs.RunLaws.{runs-are-summed}
use Rattle.us_query_loops.proofs.laws.runs_are_summed.Goals as goal

pub returns : goal.returns
returns c = runs-are-summed
