use Rattle.std.proofs.Common.{◌≤◌}
use Rattle.us_machine.proofs.rooms.+rooms.Given as goal

abbrev pub invariant-room-loop-stmt : goal.invariant-room-loop-stmt
invariant-room-loop-stmt l = l.most ≤ 65536
