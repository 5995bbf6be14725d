use Rattle.us_known.specs.Rules.{NodeRules}
use Rattle.us_known.proofs.rules.all_node_rules.Given as goal

abbrev pub invariant-loop-n : goal.invariant-loop-n
invariant-loop-n l = NodeRules l.nodes l.n l.rules.items
