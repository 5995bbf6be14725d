use Rattle.us_right.proofs.Starting.{starts}
use Rattle.us_right.proofs.laws.listing_starts.Goals as goal

pub returns : goal.returns
returns c = starts
