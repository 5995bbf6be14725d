use Rattle.std.proofs.Common.{ℕ, sym, subst, add-one}
use Rattle.us_known.specs.Rules.{NodeRules}
use Rattle.us_known.proofs.rules.all_node_rules.Goals as goal

pub loop-n-preserved : goal.loop-n-preserved
loop-n-preserved c =
    subst (λ (k : ℕ). NodeRules c.args.nodes.now k c.extend_from_slice.new.self.items) (sym (add-one c.loop-n.n))
    (c.loop-n.rules.items, c.node_rules.result, c.loop-n.invariant, c.node_rules.ensures, c.in_ok-extend_from_slice.ensures.items)
