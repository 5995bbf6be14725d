use Rattle.std.proofs.Common.{◌≡◌, drop}
use Rattle.us_code.specs.Typing.{sees_all}
use Rattle.us_bounds.specs.Seen.{context_of}
use Rattle.us_bounds.proofs.giving.sees_all.Given as goal

abbrev pub invariant-loop-buf : goal.invariant-loop-buf
invariant-loop-buf l = sees_all (context_of l.table) l.bufs ≡ sees_all (context_of l.table) (drop l.buf-index l.bufs)
