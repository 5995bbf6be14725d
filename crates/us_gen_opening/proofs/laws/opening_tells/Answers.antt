use Rattle.us_gen_opening.proofs.PartDims.{opening_tells}
use Rattle.us_gen_opening.proofs.laws.opening_tells.Goals as goal

pub returns : goal.returns
returns c = opening_tells
