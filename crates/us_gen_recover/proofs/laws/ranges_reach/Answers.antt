use Rattle.us_gen_recover.proofs.StepsLie.{ranges_reach}
use Rattle.us_gen_recover.proofs.laws.ranges_reach.Goals as goal

pub returns : goal.returns
returns c = ranges_reach
