use Rattle.us_running.proofs.Running.{marks-written}
use Rattle.us_running.proofs.laws.marks_are_written.Goals as goal

pub returns : goal.returns
returns c = marks-written
