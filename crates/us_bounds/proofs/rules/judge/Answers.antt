use Rattle.us_bounds.proofs.Leading.{first_broken, all_kept}
use Rattle.us_bounds.proofs.rules.judge.Goals as goal

pub returns-then-not-rule : goal.returns-then-not-rule
returns-then-not-rule c = first_broken c.args.item c.args.rules.now c.loop-rule.rule-index _ c.loop-rule-test.true c.if-not-rule.true c.loop-rule.invariant

pub returns : goal.returns
returns c = all_kept _ c.args.item c.args.rules.now c.loop-rule.rule-index c.loop-rule-test.false c.loop-rule.invariant
