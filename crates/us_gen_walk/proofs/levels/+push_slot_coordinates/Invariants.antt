use Rattle.std.proofs.Common.{length}
use Rattle.us_gen_walk.proofs.levels.+push_slot_coordinates.Given as goal

abbrev pub decreases-push_slot_coordinates : goal.decreases-push_slot_coordinates
decreases-push_slot_coordinates l = length l.slots.now
