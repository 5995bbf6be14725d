use Rattle.std.proofs.Common.{◌≡◌, ◌++◌, drop, map}
use Rattle.std.specs.List.{flat_map}
use Rattle.us_print.specs.Canon.{line, query_text, queries_lines}
use Rattle.us_decl.specs.Views.{query_view}
use Rattle.us_print.proofs.printing.push_queries.Given as goal

abbrev pub invariant-loop-query : goal.invariant-loop-query
invariant-loop-query l = l.out.items ++ flat_map (λ q. line l.depth (query_text l.names (query_view q))) (drop l.query-index l.queries) ≡ l.fn.out.items ++ queries_lines l.depth l.names (map query_view l.queries)
