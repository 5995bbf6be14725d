use Rattle.us_format.specs.Program.{plain_shape}
use Rattle.us_judge.specs.Views.{plain_part}
use Rattle.us_gen_parts_build.proofs.Making.{LevelsTo}
use Rattle.us_gen_parts_build.proofs.levels.levels_of.Given as goal

abbrev pub invariant-loop-level : goal.invariant-loop-level
invariant-loop-level l = LevelsTo (plain_shape l.shape) (plain_part l.part) l.dim l.columns l.level l.levels.items
