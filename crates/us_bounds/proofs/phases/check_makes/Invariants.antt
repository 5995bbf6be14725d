use Rattle.std.proofs.Common.{◌+◌, drop, length}
use Rattle.us_code.specs.Typing.{with_bufs}
use Rattle.us_code.specs.Unbound.{broken_makes}
use Rattle.us_bounds.specs.Seen.{context_of}
use Rattle.us_bounds.specs.Steps.{Ahead}
use Rattle.us_bounds.proofs.phases.check_makes.Given as goal

abbrev pub invariant-loop-make : goal.invariant-loop-make
invariant-loop-make l =
    let rest = drop l.make-index l.makes in
    Ahead (broken_makes (context_of l.fn.table) 0 l.makes) (broken_makes (context_of l.table) l.next rest) (length l.makes) (l.next + length rest) (with_bufs (context_of l.fn.table) l.makes) (with_bufs (context_of l.table) rest)
