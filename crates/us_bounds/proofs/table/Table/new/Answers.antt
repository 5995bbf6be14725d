use Rattle.us_bounds.proofs.Tables.{starts}
use Rattle.us_bounds.proofs.table.Table.new.Goals as goal

pub returns : goal.returns
returns c = starts _ c.new.ensures.empty c.new-2.ensures.empty c.new-3.ensures.empty
