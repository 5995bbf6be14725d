use Rattle.us_inputs.proofs.InputLemmas.{container_read, container_refused}
use Rattle.us_inputs.proofs.input.container_in.Goals as goal

pub returns-in-Ok-clause-plain : goal.returns-in-Ok-clause-plain
returns-in-Ok-clause-plain c = container_read c.in-Ok.held _ c.in-Ok.ensures

pub returns-in-Err-clause-plain : goal.returns-in-Err-clause-plain
returns-in-Err-clause-plain c = container_refused c.in-Err.fault _ _ c.container_refusal.ensures c.in-Err.ensures
