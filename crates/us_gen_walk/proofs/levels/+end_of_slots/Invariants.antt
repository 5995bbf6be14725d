use Rattle.std.proofs.Common.{length}
use Rattle.us_gen_walk.proofs.levels.+end_of_slots.Given as goal

abbrev pub decreases-end_of_slots : goal.decreases-end_of_slots
decreases-end_of_slots l = length l.slots.now
