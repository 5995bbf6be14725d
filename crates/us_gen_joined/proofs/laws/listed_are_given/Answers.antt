use Rattle.us_gen_joined.proofs.Joined.{listed_are_given}
use Rattle.us_gen_joined.proofs.laws.listed_are_given.Goals as goal

pub returns : goal.returns
returns c = listed_are_given
