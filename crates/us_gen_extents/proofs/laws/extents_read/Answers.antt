use Rattle.us_gen_extents.proofs.Extents.{extents_read}
use Rattle.us_gen_extents.proofs.laws.extents_read.Goals as goal

pub returns : goal.returns
returns c = extents_read
