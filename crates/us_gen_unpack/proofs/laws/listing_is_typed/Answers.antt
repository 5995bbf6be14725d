use Rattle.us_gen_unpack.proofs.ListingFits.{listing_is_typed}
use Rattle.us_gen_unpack.proofs.laws.listing_is_typed.Goals as goal

pub returns : goal.returns
returns c = listing_is_typed
