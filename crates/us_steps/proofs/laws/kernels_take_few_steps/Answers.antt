use Rattle.us_steps.proofs.StepBounds.{few_kernel_steps}
use Rattle.us_steps.proofs.laws.kernels_take_few_steps.Goals as goal

pub returns : goal.returns
returns c = few_kernel_steps
