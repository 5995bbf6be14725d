use Rattle.std.proofs.Common.{length}
use Rattle.us_gen_building.proofs.levels.+dim_lines.Given as goal

abbrev pub decreases-dim_lines : goal.decreases-dim_lines
decreases-dim_lines l = length l.levels.now
