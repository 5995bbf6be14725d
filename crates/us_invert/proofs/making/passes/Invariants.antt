use Rattle.std.proofs.Common.{map}
use Rattle.us_format.specs.Declaration.{query_of}
use Rattle.us_invert.proofs.Rounds.{IsAfter}
use Rattle.us_invert.proofs.making.passes.Given as goal

abbrev pub invariant-loop-n : goal.invariant-loop-n
invariant-loop-n l = IsAfter l.nodes (map query_of l.queries) l.fn.making l.making l.n
