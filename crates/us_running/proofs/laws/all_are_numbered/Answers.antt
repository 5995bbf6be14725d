use Rattle.us_running.proofs.Running.{all-numbered}
use Rattle.us_running.proofs.laws.all_are_numbered.Goals as goal

pub returns : goal.returns
returns c = all-numbered
