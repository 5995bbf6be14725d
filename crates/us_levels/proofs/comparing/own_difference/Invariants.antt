use Rattle.std.proofs.Common.{map}
use Rattle.us_judge.specs.Views.{plain_part}
use Rattle.us_layout.specs.Arranging.{plain_piece}
use Rattle.us_levels.proofs.Owning.{AreOwn}
use Rattle.us_levels.proofs.comparing.own_difference.Given as goal

abbrev pub invariant-loop-k : goal.invariant-loop-k
invariant-loop-k l = AreOwn (plain_part l.part) l.base (map plain_piece l.names) l.lists l.buffers l.first l.k l.place
