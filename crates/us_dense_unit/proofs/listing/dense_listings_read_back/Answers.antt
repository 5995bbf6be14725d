use Rattle.us_dense_unit.proofs.Listings.{listings_read, read_once}
use Rattle.us_dense_unit.proofs.Once.{unit_once}
use Rattle.us_dense_unit.proofs.listing.dense_listings_read_back.Goals as goal

pub returns-clause-back : goal.returns-clause-back
returns-clause-back c = listings_read

pub returns-clause-once : goal.returns-clause-once
returns-clause-once c = read_once

pub returns-clause-unit_once : goal.returns-clause-unit_once
returns-clause-unit_once c = unit_once
