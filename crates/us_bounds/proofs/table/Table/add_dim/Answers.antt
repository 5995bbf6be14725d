use Rattle.us_bounds.proofs.Tables.{dim_added}
use Rattle.us_bounds.proofs.table.Table.add_dim.Goals as goal

pub returns : goal.returns
returns c = dim_added c.args.self.now c.insert.new.self c.args.dim c.args.form c.in_ok-insert.ensures.updates.0
