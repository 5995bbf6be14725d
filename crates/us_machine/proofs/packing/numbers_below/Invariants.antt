use Rattle.std.proofs.Common.{◌≡◌, ◌^◌, map}
use Rattle.std.specs.List.{range_with_len}
use Rattle.us_machine.specs.Packing.{number_from}
use Rattle.us_machine.proofs.packing.numbers_below.Given as goal

abbrev pub invariant-loop-x : goal.invariant-loop-x
invariant-loop-x l = l.numbers.items ≡ map (number_from l.region.lists (2 ^ 32) 0 l.digits) (range_with_len 0 l.x)
