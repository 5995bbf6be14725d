use Rattle.us_gen_recover.proofs.StepsLie.{walked_values_fit}
use Rattle.us_gen_recover.proofs.laws.walked_values_fit.Goals as goal

pub returns : goal.returns
returns c = walked_values_fit
