use Rattle.std.proofs.Common.{◌≡◌, map}
use Rattle.std.specs.List.{range_with_len}
use Rattle.us_format.specs.Kinds.{kind}
use Rattle.us_judge.specs.Views.{plain_part}
use Rattle.us_judge.proofs.kinds.kinds_of.Given as goal

abbrev pub invariant-loop-level : goal.invariant-loop-level
invariant-loop-level l = l.kinds ≡ map (kind (plain_part l.part)) (range_with_len 0 l.level)
