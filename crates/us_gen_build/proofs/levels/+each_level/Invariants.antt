use Rattle.std.proofs.Common.{length}
use Rattle.us_gen_build.proofs.levels.+each_level.Given as goal

abbrev pub decreases-each_level : goal.decreases-each_level
decreases-each_level l = length l.levels.now
