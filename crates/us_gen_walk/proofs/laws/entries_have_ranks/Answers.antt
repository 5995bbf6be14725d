use Rattle.us_gen_walk.proofs.Ranks.{entries_have_ranks}
use Rattle.us_gen_walk.proofs.laws.entries_have_ranks.Goals as goal

pub returns : goal.returns
returns c = entries_have_ranks
