use Rattle.us_listing_limits.proofs.BothFit.{unpacking-keeps}
use Rattle.us_listing_limits.proofs.laws.unpacking_keeps_limits.Goals as goal

pub returns : goal.returns
returns c = unpacking-keeps
