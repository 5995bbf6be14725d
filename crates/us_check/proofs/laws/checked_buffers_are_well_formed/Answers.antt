use Rattle.us_check.proofs.WellFormed.{checks-well-formed, checks-own, checks-accepted}
use Rattle.us_check.proofs.laws.checked_buffers_are_well_formed.Goals as goal

pub returns-clause-exact : goal.returns-clause-exact
returns-clause-exact c = checks-well-formed

pub returns-clause-own : goal.returns-clause-own
returns-clause-own c = checks-own

pub returns-clause-accepted : goal.returns-clause-accepted
returns-clause-accepted c = checks-accepted
