use Rattle.std.proofs.Common.{◌≡◌, ◌≤◌, drop}
use Rattle.us_machine.specs.Packing.{count_from}
use Rattle.us_machine.proofs.packing.is_narrow.Given as goal

abbrev pub invariant-loop-digit : goal.invariant-loop-digit
invariant-loop-digit l = record {
  rest : count_from l.count (drop l.digit-index l.digits) ≡ count_from l.base l.digits;
  low : l.count ≤ l.room;
}
