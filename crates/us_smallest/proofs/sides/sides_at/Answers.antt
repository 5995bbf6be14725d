use Rattle.us_smallest.proofs.SideLemmas.{sides_there}
use Rattle.us_smallest.proofs.sides.sides_at.Goals as goal

pub returns-clause-is : goal.returns-clause-is
returns-clause-is c = sides_there c.args.place c.requires
