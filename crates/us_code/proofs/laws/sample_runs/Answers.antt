use Rattle.us_code.proofs.Samples.{sample_runs}
use Rattle.us_code.proofs.laws.sample_runs.Goals as goal

pub returns : goal.returns
returns c = sample_runs
