use Rattle.us_judge.specs.Views.{declaration_of}
use Rattle.us_levels.proofs.Sizes.{IsSizeSoFar}
use Rattle.us_levels.proofs.building.size_of_parts.Given as goal

abbrev pub invariant-loop-number : goal.invariant-loop-number
invariant-loop-number l = IsSizeSoFar (declaration_of l.format).parts l.shares l.number l.total
