use Rattle.std.proofs.Common.{length}
use Rattle.us_gen_opening.proofs.parts.+push_extents.Given as goal

abbrev pub decreases-push_extents : goal.decreases-push_extents
decreases-push_extents l = length l.tables.now
