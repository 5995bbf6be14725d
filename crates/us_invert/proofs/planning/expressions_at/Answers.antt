use Rattle.std.proofs.Common.{map, ap, ◌∙◌}
use Rattle.std.proofs.lemmas.List.{take_all}
use Rattle.us_expr.specs.Tree.{tree}
use Rattle.us_known.specs.Table.{tree_at, trees}
use Rattle.us_invert.specs.Made.{trees_at}
use Rattle.us_invert.proofs.Ending.{exprs-more}
use Rattle.us_invert.proofs.planning.expressions_at.Goals as goal

pub loop-n-init : goal.loop-n-init
loop-n-init c = ap (map tree) c.new-exprs.ensures.items

pub loop-n-preserved : goal.loop-n-preserved
loop-n-preserved c =
    exprs-more tree (tree_at (trees c.args.nodes.now)) c.loop-n.exprs.items c.push.new.self.items c.in_ok-expression_at.field-0 c.args.made.now c.loop-n.n-index c.loop-n.invariant c.loop-n-test.true
    c.in_ok-expression_at.ensures c.in_ok-push.ensures.items

pub expression_at-requires-clause-node : goal.expression_at-requires-clause-node
expression_at-requires-clause-node c = c.requires.nodes c.loop-n.n-index c.loop-n-test.true

pub returns : goal.returns
returns c = c.loop-n.invariant ∙ ap (trees_at c.args.nodes.now) (take_all c.loop-n.n-index c.args.made.now c.loop-n-test.false)
