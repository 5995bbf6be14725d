use Rattle.us_bounds.proofs.Tables.{reg_removed}
use Rattle.us_bounds.proofs.table.Table.remove_reg.Goals as goal

pub returns : goal.returns
returns c = reg_removed c.args.self.now c.remove.new.self c.args.reg c.remove.ensures.updates.0
