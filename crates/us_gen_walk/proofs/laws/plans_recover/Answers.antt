use Rattle.us_gen_walk.proofs.PlanRecovery.{plans_recover}
use Rattle.us_gen_walk.proofs.laws.plans_recover.Goals as goal

pub returns : goal.returns
returns c = plans_recover
