use Rattle.us_format.proofs.PackSizes.{packing-keeps-size}
use Rattle.us_format.proofs.laws.packing_keeps_size.Goals as goal

pub returns : goal.returns
returns c = packing-keeps-size
