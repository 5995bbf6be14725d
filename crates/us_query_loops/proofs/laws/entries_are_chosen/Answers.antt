use Rattle.us_query_loops.proofs.Choosing.{entries-are-chosen}
use Rattle.us_query_loops.proofs.laws.entries_are_chosen.Goals as goal

pub returns : goal.returns
returns c = entries-are-chosen
