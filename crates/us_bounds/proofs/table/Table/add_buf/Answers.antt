use Rattle.us_bounds.proofs.Tables.{buf_added}
use Rattle.us_bounds.proofs.table.Table.add_buf.Goals as goal

pub returns : goal.returns
returns c = buf_added c.args.self.now c.insert.new.self c.args.make c.in_ok-insert.ensures.updates.0
