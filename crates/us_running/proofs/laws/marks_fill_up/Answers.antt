use Rattle.us_running.proofs.Marks.{marks-fill-up}
use Rattle.us_running.proofs.laws.marks_fill_up.Goals as goal

pub returns : goal.returns
returns c = marks-fill-up
