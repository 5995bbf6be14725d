use Rattle.us_format.specs.Program.{plain_shape}
use Rattle.us_judge.specs.Views.{plain_part}
use Rattle.us_gen_parts_build.proofs.Making.{LowsTo}
use Rattle.us_gen_parts_build.proofs.levels.lows_of.Given as goal

abbrev pub invariant-loop-level : goal.invariant-loop-level
invariant-loop-level l = LowsTo (plain_shape l.shape) (plain_part l.part) l.level l.lows.items
