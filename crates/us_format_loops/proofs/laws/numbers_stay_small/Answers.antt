use Rattle.us_format_loops.proofs.Small.{numbers-stay-small}
use Rattle.us_format_loops.proofs.laws.numbers_stay_small.Goals as goal

pub returns : goal.returns
returns c = numbers-stay-small
