use Rattle.us_gen_kernel.proofs.KernelTyped.{kernel-typed}
use Rattle.us_gen_kernel.proofs.laws.kernel_is_typed.Goals as goal

pub returns : goal.returns
returns c = kernel-typed
