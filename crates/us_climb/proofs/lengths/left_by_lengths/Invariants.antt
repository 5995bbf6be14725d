use Rattle.std.proofs.Common.{◌≡◌, ◌+◌, length, take}
use Rattle.std.specs.List.{sum_by}
use Rattle.us_format.specs.Reading.{limit}
use Rattle.us_climb.proofs.lengths.left_by_lengths.Given as goal

abbrev pub invariant-loop-number : goal.invariant-loop-number
invariant-loop-number l = l.left + sum_by length (take l.number l.buffers) ≡ limit
