use Rattle.std.proofs.Common.{◌≡◌, drop, map}
use Rattle.us_code.specs.Unbound.{broken}
use Rattle.us_bounds.specs.Steps.{plain_rule}
use Rattle.us_bounds.proofs.rules.judge.Given as goal

abbrev pub invariant-loop-rule : goal.invariant-loop-rule
invariant-loop-rule l = broken l.item (map plain_rule l.rules) ≡ broken l.item (map plain_rule (drop l.rule-index l.rules))
