use Rattle.us_running.proofs.Running.{written_cong}
use Rattle.us_running.proofs.laws.cells_follow_entries.Goals as goal

pub returns : goal.returns
returns c = written_cong
