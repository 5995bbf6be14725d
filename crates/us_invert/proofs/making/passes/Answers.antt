use Rattle.std.proofs.Common.{map}
use Rattle.us_format.specs.Declaration.{query_of}
use Rattle.us_invert.proofs.Rounds.{after-start, after-more, after-idle, after-end}
use Rattle.us_invert.proofs.making.passes.Goals as goal

pub loop-n-init : goal.loop-n-init
loop-n-init c = after-start c.args.nodes.now (map query_of c.args.queries.now) c.args.making.now c.requires.making

pub loop-n-preserved : goal.loop-n-preserved
loop-n-preserved c =
    after-more c.args.nodes.now (map query_of c.args.queries.now) c.args.making.now c.loop-n.making c.pass.new.making c.loop-n.n c.loop-n.invariant c.loop-n-test.true c.in_ok-pass.ensures.making c.in_ok-pass.ensures.steps

pub returns-then-not-branch-clause-making : goal.returns-then-not-branch-clause-making
returns-then-not-branch-clause-making c = c.in_ok-pass.ensures.making

pub returns-then-not-branch-clause-steps : goal.returns-then-not-branch-clause-steps
returns-then-not-branch-clause-steps c =
    after-idle c.args.nodes.now (map query_of c.args.queries.now) c.args.making.now c.loop-n.making c.pass.new.making c.loop-n.n c.loop-n.invariant c.in_ok-pass.ensures.steps (c.in_ok-pass.ensures.idle c.if-not-branch.true)

pub returns-clause-making : goal.returns-clause-making
returns-clause-making c = c.loop-n.invariant.making

pub returns-clause-steps : goal.returns-clause-steps
returns-clause-steps c = after-end c.args.nodes.now (map query_of c.args.queries.now) c.args.making.now c.loop-n.making c.loop-n.n c.loop-n-test.false c.loop-n.invariant
