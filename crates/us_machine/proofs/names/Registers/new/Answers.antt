use Rattle.us_machine.proofs.Held.{regs_new}
use Rattle.us_machine.proofs.names.Registers.new.Goals as goal

pub returns : goal.returns
returns c = regs_new record { names = c.in_ok-new.field-0 } c.in_ok-new.ensures
