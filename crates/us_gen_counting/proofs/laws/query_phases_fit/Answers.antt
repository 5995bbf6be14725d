use Rattle.us_gen_counting.proofs.QueryFits.{query_fits}
use Rattle.us_gen_counting.proofs.laws.query_phases_fit.Goals as goal

pub returns : goal.returns
returns c = query_fits
