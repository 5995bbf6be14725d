use Rattle.std.proofs.Common.{Err, ap}
use Rattle.us_inputs.proofs.SourceLemmas.{entries_held, entries_too_large}
use Rattle.us_inputs.proofs.source.hold_entries.Goals as goal

pub returns-clause-plain : goal.returns-clause-plain
returns-clause-plain c =
    entries_held c.in-Ok.held c.in_ok-format.format c.args.matrix c.buffers.ensures.held c.in_ok-format.ensures c.in-Ok.ensures.held.0 c.in-Ok.ensures.held.1 c.in-Ok.ensures.small

pub returns-in-Err-TooLarge-clause-plain : goal.returns-in-Err-TooLarge-clause-plain
returns-in-Err-TooLarge-clause-plain c =
    entries_too_large c.in_ok-format.format c.args.matrix c.in_ok-format.ensures (c.in-Err-TooLarge.ensures.large (ap Err c.in-Err-TooLarge.field-0-is))
