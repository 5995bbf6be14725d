use Rattle.us_inputs.proofs.InputLemmas.{all_valid, library_refused_at, inner_formats}
use Rattle.us_inputs.proofs.input.library_in.Goals as goal

pub returns-in-Ok-clause-valid : goal.returns-in-Ok-clause-valid
returns-in-Ok-clause-valid c = all_valid c.args.bytes.now _ c.in-Ok.ensures

pub returns-in-Err-clause-plain : goal.returns-in-Err-clause-plain
returns-in-Err-clause-plain c = library_refused_at c.in-Err.fault c.args.bytes.now _ c.formats_refusal.ensures c.in-Err.ensures

pub returns-in-Err-clause-refusal : goal.returns-in-Err-clause-refusal
returns-in-Err-clause-refusal c = inner_formats c.in-Err.fault _ c.formats_refusal.ensures
