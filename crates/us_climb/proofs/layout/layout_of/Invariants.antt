use Rattle.us_format.specs.Program.{plain_shape}
use Rattle.us_judge.specs.Views.{plain_part}
use Rattle.us_climb.proofs.LevelsLaid.{IsLaid}
use Rattle.us_climb.proofs.layout.layout_of.Given as goal

abbrev pub invariant-loop-level : goal.invariant-loop-level
invariant-loop-level l = IsLaid l.first (plain_shape l.shape) l.extents (plain_part l.part) l.level l.levels.items l.own
