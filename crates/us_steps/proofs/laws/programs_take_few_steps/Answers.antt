use Rattle.us_steps.proofs.StepBounds.{few_steps}
use Rattle.us_steps.proofs.laws.programs_take_few_steps.Goals as goal

pub returns : goal.returns
returns c = few_steps
