use Rattle.us_known.specs.Rules.{QueryRules}
use Rattle.us_known.proofs.rules.add_query_rules.Given as goal

abbrev pub invariant-loop-query : goal.invariant-loop-query
invariant-loop-query l = QueryRules l.nodes l.queries l.fn.rules.items l.query-index l.rules.items
