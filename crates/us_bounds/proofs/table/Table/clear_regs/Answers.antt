use Rattle.us_bounds.proofs.Tables.{regs_cleared}
use Rattle.us_bounds.proofs.table.Table.clear_regs.Goals as goal

pub returns : goal.returns
returns c = regs_cleared c.args.self.now c.clear.new.self c.clear.ensures.empty
