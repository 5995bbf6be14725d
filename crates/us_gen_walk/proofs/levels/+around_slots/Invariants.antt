use Rattle.std.proofs.Common.{length}
use Rattle.us_gen_walk.proofs.levels.+around_slots.Given as goal

abbrev pub decreases-around_slots : goal.decreases-around_slots
decreases-around_slots l = length l.slots.now
