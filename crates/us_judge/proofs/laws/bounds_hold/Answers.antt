use Rattle.us_judge.proofs.LevelEnds.{bounds-hold}
use Rattle.us_judge.proofs.laws.bounds_hold.Goals as goal

pub returns : goal.returns
returns c = bounds-hold
