use Rattle.std.proofs.Common.{◌+◌, Bool, map, sym, subst}
use Rattle.us_format.specs.Declaration.{query_of}
use Rattle.us_invert.proofs.Rounds.{IsOnPass, on-start, on-more, on-same, on-end}
use Rattle.us_invert.proofs.making.pass.Goals as goal
use Rattle.us_invert.proofs.making.pass.Goals.{then-branch, else-branch}

pub loop-e-init : goal.loop-e-init
loop-e-init c = on-start c.args.nodes.now (map query_of c.args.queries.now) c.args.making.now c.requires.making

pub loop-e-preserved : goal.loop-e-preserved
loop-e-preserved c =
    elim c.if-branch.branch [
      | then-branch w ↦
          subst (λ (b : Bool). IsOnPass c.args.nodes.now (map query_of c.args.queries.now) c.args.making.now c.step_for.new.making (c.loop-e.e + 1) b) (sym w.changed-is)
          (on-more c.args.nodes.now (map query_of c.args.queries.now) c.args.making.now c.loop-e.making c.step_for.new.making c.loop-e.e c.loop-e.changed c.loop-e.invariant c.loop-e-test.true c.in_ok-step_for.ensures.making c.in_ok-step_for.ensures.steps)
      | else-branch w ↦
          subst (λ (b : Bool). IsOnPass c.args.nodes.now (map query_of c.args.queries.now) c.args.making.now c.step_for.new.making (c.loop-e.e + 1) b) (sym w.changed-is)
          (on-same c.args.nodes.now (map query_of c.args.queries.now) c.args.making.now c.loop-e.making c.step_for.new.making c.loop-e.e c.loop-e.changed c.loop-e.invariant c.loop-e-test.true c.in_ok-step_for.ensures.making c.in_ok-step_for.ensures.steps
          (c.in_ok-step_for.ensures.idle w.if-branch.false))
    ]

pub returns-clause-making : goal.returns-clause-making
returns-clause-making c = c.loop-e.invariant.making

pub returns-clause-steps : goal.returns-clause-steps
returns-clause-steps c = on-end c.args.nodes.now (map query_of c.args.queries.now) c.args.making.now c.loop-e.making c.loop-e.e c.loop-e.changed c.loop-e-test.false c.loop-e.invariant

pub returns-clause-idle : goal.returns-clause-idle
returns-clause-idle c = c.loop-e.invariant.idle
