use Rattle.std.proofs.Common.{arith}
use Rattle.us_gen_kernel.proofs.PieceMade.{buffers-few}
use Rattle.us_gen_kernel.proofs.multiplying.product_behind.Goals as goal

pub overflow_cast-result : goal.overflow_cast-result
overflow_cast-result c =
    record { fits = omega (arith, c.buffers.ensures, buffers-few c.args.format.now c.first_part.ensures.valid c.first_part.ensures.accepted) }
