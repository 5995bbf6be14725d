use Rattle.std.proofs.Common.{length}
use Rattle.us_gen_extents.proofs.phase.+load_cells.Given as goal

abbrev pub decreases-load_cells : goal.decreases-load_cells
decreases-load_cells l = length l.buffers.now
