use Rattle.us_running.proofs.Running.{numbers-small}
use Rattle.us_running.proofs.laws.numbers_are_small.Goals as goal

pub returns : goal.returns
returns c = numbers-small
