use Rattle.us_gen_walk.proofs.WalkRuns.{walk_lists}
use Rattle.us_gen_walk.proofs.laws.walk_lists.Goals as goal

pub returns : goal.returns
returns c = walk_lists
