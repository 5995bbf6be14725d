use Rattle.std.proofs.Common.{drop}
use Rattle.us_code_print.specs.ReadBack.{NamedBufs}
use Rattle.us_unit.proofs.names.buffers_are_named.Given as goal

abbrev pub invariant-loop-buf : goal.invariant-loop-buf
invariant-loop-buf l = NamedBufs (drop l.buf-index l.bufs) → NamedBufs l.bufs
