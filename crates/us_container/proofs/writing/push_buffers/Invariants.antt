use Rattle.std.proofs.Common.{◌≡◌, ◌++◌, drop, length}
use Rattle.std.specs.List.{flat_map}
use Rattle.us_container.specs.Bytes.{number_bytes, buffer_bytes}
use Rattle.us_container.proofs.writing.push_buffers.Given as goal

abbrev pub invariant-loop-b : goal.invariant-loop-b
invariant-loop-b l = l.out.items ++ flat_map buffer_bytes (drop l.b l.buffers) ≡ l.fn.out.items ++ (number_bytes (length l.buffers) ++ flat_map buffer_bytes l.buffers)
