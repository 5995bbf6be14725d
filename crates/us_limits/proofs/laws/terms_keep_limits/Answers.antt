use Rattle.us_limits.proofs.Terms.{terms-keep-limits}
use Rattle.us_limits.proofs.laws.terms_keep_limits.Goals as goal

pub returns : goal.returns
returns c = terms-keep-limits
