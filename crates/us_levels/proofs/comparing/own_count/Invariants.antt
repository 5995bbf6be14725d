use Rattle.std.proofs.Common.{◌≡◌, length, map, take}
use Rattle.std.specs.List.{filter}
use Rattle.us_judge.specs.Views.{plain_part}
use Rattle.us_layout.specs.Arranging.{plain_piece}
use Rattle.us_levels.proofs.Owning.{is_own}
use Rattle.us_levels.proofs.comparing.own_count.Given as goal

abbrev pub invariant-loop-name : goal.invariant-loop-name
invariant-loop-name l = l.count ≡ length (filter (is_own (plain_part l.part)) (take l.name-index (map plain_piece l.names)))
