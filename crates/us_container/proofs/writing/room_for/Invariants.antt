use Rattle.std.proofs.Common.{◌≡◌, ◌+◌, drop, length}
use Rattle.std.specs.List.{flat_map}
use Rattle.us_container.specs.Bytes.{buffer_bytes}
use Rattle.us_container.proofs.writing.room_for.Given as goal

abbrev pub invariant-loop-b : goal.invariant-loop-b
invariant-loop-b l = l.room + length (flat_map buffer_bytes (drop l.b l.buffers)) ≡ 40 + length l.text + length (flat_map buffer_bytes l.buffers)
