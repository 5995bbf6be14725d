use Rattle.std.proofs.Common.{◌≡◌, ◌+◌, ◌*◌, ◌≤◌, drop}
use Rattle.us_machine.specs.Packing.{count_from, number_from}
use Rattle.us_machine.proofs.packing.number_at.Given as goal

abbrev pub invariant-loop-digit : goal.invariant-loop-digit
invariant-loop-digit l = record {
  rest : number_from l.region.lists l.base l.number (drop l.digit-index l.digits) l.x ≡ number_from l.region.lists l.base 0 l.digits l.x;
  narrow : count_from ((l.number + 1) * l.base) (drop l.digit-index l.digits) ≤ count_from l.base l.digits;
}
