use Rattle.us_known.proofs.Passing.{IsPassed}
use Rattle.us_known.proofs.rules.pass.Given as goal

abbrev pub invariant-loop-rule : goal.invariant-loop-rule
invariant-loop-rule l = IsPassed l.rules l.rule-index l.fn.known l.known l.changed
