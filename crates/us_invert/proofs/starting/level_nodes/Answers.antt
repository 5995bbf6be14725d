use Rattle.std.proofs.Common.{ℕ, ◌+◌, List, [], map, take, sym, subst, Option}
use Rattle.us_expr.specs.Tree.{tree}
use Rattle.us_invert.specs.Start.{AreNodesOf}
use Rattle.us_invert.proofs.Beginning.{nodes-start, nodes-more, nodes-end}
use Rattle.us_invert.proofs.starting.level_nodes.Goals as goal

pub loop-level-init : goal.loop-level-init
loop-level-init c = subst (λ (os : List (Option ℕ)). AreNodesOf c.args.nodes.now [] os) (sym c.new-found.ensures.items) (nodes-start c.args.nodes.now)

pub loop-level-preserved : goal.loop-level-preserved
loop-level-preserved c =
    subst (λ (os : List (Option ℕ)). AreNodesOf c.args.nodes.now (map tree (take (c.loop-level.level-index + 1) c.args.levels.now)) os) (sym c.in_ok-push.ensures.items)
    (nodes-more tree c.args.nodes.now c.args.levels.now c.loop-level.found.items c.loop-level.level-index c.level-item.result c.number_of.result c.loop-level.invariant c.loop-level-test.true c.level-item.is
    c.number_of.ensures.found c.number_of.ensures.absent)

pub returns : goal.returns
returns c = nodes-end tree c.args.nodes.now c.args.levels.now c.loop-level.found.items c.loop-level.level-index c.loop-level.invariant c.loop-level-test.false
