use Rattle.us_listing_limits.proofs.PlanReads.{plans-read}
use Rattle.us_listing_limits.proofs.laws.plans_read_twice.Goals as goal

pub returns : goal.returns
returns c = plans-read
