use Rattle.us_gen_opening.proofs.BothPhases.{unpack_lists}
use Rattle.us_gen_opening.proofs.laws.unpack_lists.Goals as goal

pub returns : goal.returns
returns c = unpack_lists
