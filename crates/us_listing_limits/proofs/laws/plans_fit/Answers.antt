use Rattle.us_listing_limits.proofs.PlanNumbers.{plans-fit}
use Rattle.us_listing_limits.proofs.laws.plans_fit.Goals as goal

pub returns : goal.returns
returns c = plans-fit
