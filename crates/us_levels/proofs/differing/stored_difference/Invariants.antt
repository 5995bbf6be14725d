use Rattle.std.proofs.Common.{length}
use Rattle.us_format.specs.Program.{shape_in, entries_in}
use Rattle.us_judge.specs.Views.{plain_part}
use Rattle.us_levels.proofs.Walked.{IsCompared}
use Rattle.us_levels.proofs.differing.stored_difference.Given as goal

abbrev pub invariant-loop-walk : goal.invariant-loop-walk
invariant-loop-walk l = IsCompared (shape_in l.matrix) (plain_part l.part) (entries_in l.matrix) l.buffers l.base l.walk l.lists

abbrev pub decreases-loop-walk : goal.decreases-loop-walk
decreases-loop-walk l = length l.walk.levels
