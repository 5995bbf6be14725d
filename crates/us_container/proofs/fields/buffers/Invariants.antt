use Rattle.us_container.proofs.Steps.{GoesOn}
use Rattle.us_container.proofs.fields.buffers.Given as goal

abbrev pub invariant-loop : goal.invariant-loop
invariant-loop l = GoesOn l.len l.count l.rest l.counter l.found l.left
