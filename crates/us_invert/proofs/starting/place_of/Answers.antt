use Rattle.std.proofs.Common.{sym, ◌∙◌}
use Rattle.us_invert.proofs.Beginning.{place-found, place-next, place-end}
use Rattle.us_invert.proofs.starting.place_of.Goals as goal

pub loop-k-preserved : goal.loop-k-preserved
loop-k-preserved c = c.loop-k.invariant ∙ place-next c.args.level_nodes.now c.loop-k.k c.args.n c.loop-k-test.true (sym c.is_node.ensures ∙ c.if-is_node.false)

pub returns-then-is_node : goal.returns-then-is_node
returns-then-is_node c = sym (c.loop-k.invariant ∙ place-found c.args.level_nodes.now c.loop-k.k c.args.n c.loop-k-test.true (sym c.is_node.ensures ∙ c.if-is_node.true))

pub returns : goal.returns
returns c = sym (c.loop-k.invariant ∙ place-end c.args.level_nodes.now c.loop-k.k c.args.n c.loop-k-test.false)
