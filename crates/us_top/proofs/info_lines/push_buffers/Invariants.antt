use Rattle.std.proofs.Common.{◌≡◌, ◌++◌, drop}
use Rattle.us_top.specs.Info.{buffer_lines}
use Rattle.us_top.proofs.info_lines.push_buffers.Given as goal

abbrev pub invariant-loop-k : goal.invariant-loop-k
invariant-loop-k l = l.out.items ++ buffer_lines l.k (drop l.k l.buffers) ≡ l.fn.out.items ++ buffer_lines 0 l.buffers
