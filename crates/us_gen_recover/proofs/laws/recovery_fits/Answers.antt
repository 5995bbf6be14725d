use Rattle.us_gen_recover.proofs.StepsFit.{recovery_fits}
use Rattle.us_gen_recover.proofs.laws.recovery_fits.Goals as goal

pub returns : goal.returns
returns c = recovery_fits
