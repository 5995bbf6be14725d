use Rattle.std.proofs.Common.{◌≡◌, take}
use Rattle.us_decl.proofs.copying.copy_queries.Given as goal

abbrev pub invariant-loop-query : goal.invariant-loop-query
invariant-loop-query l = l.copy ≡ take l.query-index l.queries
