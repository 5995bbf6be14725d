use Rattle.us_running.proofs.Running.{table_set}
use Rattle.us_running.proofs.laws.cells_are_set.Goals as goal

pub returns : goal.returns
returns c = table_set
