use Rattle.std.proofs.Common.{map}
use Rattle.us_format.specs.Declaration.{query_of}
use Rattle.us_invert.proofs.Rounds.{IsOnPass}
use Rattle.us_invert.proofs.making.pass.Given as goal

abbrev pub invariant-loop-e : goal.invariant-loop-e
invariant-loop-e l = IsOnPass l.nodes (map query_of l.queries) l.fn.making l.making l.e l.changed
