use Rattle.std.proofs.Common.{length}
use Rattle.us_judge.proofs.packs.+is_run_from.Given as goal

abbrev pub decreases-is_run_from : goal.decreases-is_run_from
decreases-is_run_from l = length l.columns.now
