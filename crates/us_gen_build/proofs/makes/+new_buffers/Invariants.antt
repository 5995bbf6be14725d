use Rattle.std.proofs.Common.{length}
use Rattle.us_gen_build.proofs.makes.+new_buffers.Given as goal

abbrev pub decreases-new_buffers : goal.decreases-new_buffers
decreases-new_buffers l = length l.levels.now
