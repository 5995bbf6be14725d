use Rattle.us_format.specs.Declaration.{query_of, argument}
use Rattle.us_format.specs.Known.{sub_expressions}
use Rattle.us_known.proofs.Loops.{IsInserted}
use Rattle.us_known.proofs.known_set.insert_arguments.Given as goal

abbrev pub invariant-loop-query : goal.invariant-loop-query
invariant-loop-query l = IsInserted (λ q. sub_expressions (argument (query_of q))) l.fn.nodes.items l.nodes.items l.queries l.query-index
