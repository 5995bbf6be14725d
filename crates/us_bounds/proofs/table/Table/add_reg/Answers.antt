use Rattle.us_bounds.proofs.Tables.{reg_added}
use Rattle.us_bounds.proofs.table.Table.add_reg.Goals as goal

pub returns : goal.returns
returns c = reg_added c.args.self.now c.insert.new.self c.args.reg record { is_var = c.args.is_var; kind = c.args.kind } c.in_ok-insert.ensures.updates.0
