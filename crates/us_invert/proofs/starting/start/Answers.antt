use Rattle.std.proofs.Common.{map, arith}
use Rattle.us_expr.specs.Tree.{tree}
use Rattle.us_invert.proofs.Beginning.{starting-first, starting-next, starting-end}
use Rattle.us_invert.proofs.starting.start.Goals as goal

pub loop-n-init : goal.loop-n-init
loop-n-init c = starting-first c.args.nodes.now (map tree c.args.levels.now) c.args.making.now c.requires.empty

pub loop-n-preserved : goal.loop-n-preserved
loop-n-preserved c =
    starting-next c.args.nodes.now (map tree c.args.levels.now) c.loop-n.making c.start_one.new.making c.loop-n.n c.loop-n.invariant c.loop-n-test.true c.in_ok-start_one.ensures.making c.in_ok-start_one.ensures.steps c.in_ok-start_one.ensures.others

pub start_one-requires-clause-free : goal.start_one-requires-clause-free
start_one-requires-clause-free c = c.loop-n.invariant.free c.loop-n.n (omega arith)

pub start_one-requires-clause-making : goal.start_one-requires-clause-making
start_one-requires-clause-making c = c.loop-n.invariant.making

pub returns-clause-making : goal.returns-clause-making
returns-clause-making c = c.loop-n.invariant.making

pub returns-clause-steps : goal.returns-clause-steps
returns-clause-steps c = starting-end c.args.nodes.now (map tree c.args.levels.now) c.loop-n.making c.loop-n.n c.loop-n-test.false c.loop-n.invariant
