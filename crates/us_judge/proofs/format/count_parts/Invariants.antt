use Rattle.std.proofs.Common.{◌≡◌, ◌≤◌, ◌*◌, map, take}
use Rattle.std.specs.List.{sum_by}
use Rattle.us_format.specs.Reading.{buffer_count}
use Rattle.us_judge.specs.Views.{plain_part}
use Rattle.us_judge.proofs.format.count_parts.Given as goal

abbrev pub invariant-loop-k : goal.invariant-loop-k
invariant-loop-k l = (l.count ≡ sum_by buffer_count (map plain_part (take l.k l.parts))) × (l.count ≤ 81 * l.k)
