use Rattle.us_code_laws.proofs.Frame.{same_regs}
use Rattle.us_code_laws.proofs.laws.keeps_registers.Goals as goal

pub returns : goal.returns
returns c = same_regs
