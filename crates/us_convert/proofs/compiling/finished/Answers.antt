use Rattle.std.proofs.Common.{arith}
use Rattle.us_right.proofs.Accepted.{buffers-few}
use Rattle.us_convert.proofs.compiling.finished.Goals as goal

pub overflow_cast-sources : goal.overflow_cast-sources
overflow_cast-sources c = record { fits = omega (arith, c.buffers-count.ensures, buffers-few c.args.from.now c.requires) }
