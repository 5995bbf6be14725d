use Rattle.us_gen_unpack.proofs.ListingRuns.{listing_lists}
use Rattle.us_gen_unpack.proofs.laws.listing_lists.Goals as goal

pub returns : goal.returns
returns c = listing_lists
