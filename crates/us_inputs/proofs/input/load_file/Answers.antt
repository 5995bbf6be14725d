use Rattle.std.proofs.Common.{Err, ap}
use Rattle.std.proofs.lemmas.Option.{IfSome_then}
use Rattle.us_inputs.proofs.InputLemmas.{too_long, loaded}
use Rattle.us_inputs.proofs.input.load_file.Goals as goal

pub returns-in-Ok-clause-plain : goal.returns-in-Ok-clause-plain
returns-in-Ok-clause-plain g c =
    IfSome_then (g.O.Outside.files c.args.outside.now) c.in-Ok.ensures.bytes (λ fs e. loaded c.args.slot c.in-Ok.bytes.items _ e c.in-Ok.ensures.short)

pub returns-in-Err-TooLong-clause-plain : goal.returns-in-Err-TooLong-clause-plain
returns-in-Err-TooLong-clause-plain g c =
    IfSome_then (g.O.Outside.files c.args.outside.now) (c.in-Err-TooLong.ensures.long (ap Err c.in-Err-TooLong.field-0-is)) (λ fs long. too_long c.args.slot _ long)
