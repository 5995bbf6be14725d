use Rattle.us_gen_recover.proofs.StepsRun.{recovery_gives}
use Rattle.us_gen_recover.proofs.laws.recovery_gives.Goals as goal

pub returns : goal.returns
returns c = recovery_gives
