use Rattle.us_format.proofs.Planned.{plan-recovers}
use Rattle.us_format.proofs.laws.plan_recovers.Goals as goal

pub returns : goal.returns
returns c = plan-recovers
