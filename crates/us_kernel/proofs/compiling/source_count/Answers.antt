use Rattle.std.proofs.Common.{arith}
use Rattle.us_gen_kernel.proofs.PieceMade.{buffers-few}
use Rattle.us_kernel.proofs.compiling.source_count.Goals as goal

pub overflow_add-count : goal.overflow_add-count
overflow_add-count c = omega (arith, c.buffers-count.ensures, buffers-few c.args.from.now c.first_part.ensures.valid c.first_part.ensures.accepted)

pub overflow_cast-result : goal.overflow_cast-result
overflow_cast-result c =
    record { fits = omega (arith, c.buffers-count.ensures, buffers-few c.args.from.now c.first_part.ensures.valid c.first_part.ensures.accepted) }
