use Rattle.us_unit.proofs.Listings.{listings_read, read_once}
use Rattle.us_unit.proofs.listing.listings_read_back.Goals as goal

pub returns-clause-back : goal.returns-clause-back
returns-clause-back c = listings_read

pub returns-clause-once : goal.returns-clause-once
returns-clause-once c = read_once
