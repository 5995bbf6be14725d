use Rattle.us_query_loops.proofs.RunLaws.{runs-are-enumerated}
use Rattle.us_query_loops.proofs.laws.runs_are_enumerated.Goals as goal

pub returns : goal.returns
returns c = runs-are-enumerated
