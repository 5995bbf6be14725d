use Rattle.us_gen_building.proofs.Sharing.{shares_are_small}
use Rattle.us_gen_building.proofs.laws.shares_are_small.Goals as goal

pub returns : goal.returns
returns c = shares_are_small
