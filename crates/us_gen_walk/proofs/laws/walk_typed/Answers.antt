use Rattle.us_gen_walk.proofs.WalkFits.{walk_is_typed}
use Rattle.us_gen_walk.proofs.laws.walk_typed.Goals as goal

pub returns : goal.returns
returns c = walk_is_typed
