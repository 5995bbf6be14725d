use Rattle.us_format.specs.Program.{plain_shape}
use Rattle.us_top.proofs.RunCodeLemmas.{buffers_refused, checked_result, inner_broken}
use Rattle.us_top.proofs.result.container.Goals as goal

pub returns-clause-plain : goal.returns-clause-plain
returns-clause-plain c =
    checked_result c.args.format (plain_shape c.args.shape) c.args.buffers c.in-Ok.held c.written.result c.in-Ok.ensures.reason c.written.ensures.bytes c.written.ensures.memory

pub returns-in-Err-clause-plain : goal.returns-in-Err-clause-plain
returns-in-Err-clause-plain c = buffers_refused c.args.format (plain_shape c.args.shape) c.args.buffers c.in-Err.why _ c.broken_refusal.ensures c.in-Err.ensures.reason

pub returns-in-Err-clause-refusal : goal.returns-in-Err-clause-refusal
returns-in-Err-clause-refusal c = inner_broken c.in-Err.why _ c.broken_refusal.ensures
