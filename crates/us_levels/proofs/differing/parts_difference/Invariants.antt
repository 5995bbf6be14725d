use Rattle.us_judge.specs.Views.{declaration_of}
use Rattle.us_levels.proofs.Starting.{AreLeft}
use Rattle.us_levels.proofs.differing.parts_difference.Given as goal

abbrev pub invariant-loop-number : goal.invariant-loop-number
invariant-loop-number l = AreLeft (declaration_of l.format).parts l.shares l.buffers l.number l.first
