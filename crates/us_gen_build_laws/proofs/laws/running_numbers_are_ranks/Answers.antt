use Rattle.us_gen_build_laws.proofs.Levels.{running-ranks}
use Rattle.us_gen_build_laws.proofs.laws.running_numbers_are_ranks.Goals as goal

pub returns : goal.returns
returns c = running-ranks
