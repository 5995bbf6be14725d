use Rattle.us_judge.specs.Views.{declaration_of}
use Rattle.us_levels.proofs.Joined.{IsBuiltTo}
use Rattle.us_levels.proofs.building.build_parts.Given as goal

abbrev pub invariant-loop-number : goal.invariant-loop-number
invariant-loop-number l = IsBuiltTo (declaration_of l.format).parts l.shares l.number l.lists l.used
