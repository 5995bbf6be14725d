use Rattle.std.proofs.Common.{length}
use Rattle.us_gen_build.proofs.orders.+key_buffers.Given as goal

abbrev pub decreases-key_buffers : goal.decreases-key_buffers
decreases-key_buffers l = length l.keys.now
