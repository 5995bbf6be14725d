use Rattle.us_known.specs.Rules.{Leads, missing}
use Rattle.us_known.proofs.rules.saturate.Given as goal

abbrev pub invariant-loop : goal.invariant-loop
invariant-loop l = Leads l.rules l.fn.known l.known

abbrev pub decreases-loop : goal.decreases-loop
decreases-loop l = missing l.known
