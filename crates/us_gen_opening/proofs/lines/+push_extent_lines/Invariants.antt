use Rattle.std.proofs.Common.{length}
use Rattle.us_gen_opening.proofs.lines.+push_extent_lines.Given as goal

abbrev pub decreases-push_extent_lines : goal.decreases-push_extent_lines
decreases-push_extent_lines l = length l.extents.now
