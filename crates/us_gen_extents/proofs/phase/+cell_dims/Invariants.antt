use Rattle.std.proofs.Common.{length}
use Rattle.us_gen_extents.proofs.phase.+cell_dims.Given as goal

abbrev pub decreases-cell_dims : goal.decreases-cell_dims
decreases-cell_dims l = length l.buffers.now
