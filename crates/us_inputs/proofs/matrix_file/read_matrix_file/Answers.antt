use Rattle.std.proofs.Common.{◌∷◌, []}
use Rattle.std.proofs.lemmas.Option.{IfSome_then}
use Rattle.std.proofs.lemmas.Result.{IfErr-weaker}
use Rattle.us_outside.specs.Files.{content_of}
use Rattle.us_status.specs.Uses.{reads}
use Rattle.us_inputs.specs.Views.{input_of}
use Rattle.us_inputs.proofs.InputLemmas.{inner_refusal, unread_behind, matrix_behind}
use Rattle.us_inputs.proofs.matrix_file.read_matrix_file.Goals as goal

pub returns-in-Err-clause-plain : goal.returns-in-Err-clause-plain
returns-in-Err-clause-plain g c = IfSome_then (g.O.Outside.files c.args.outside.now) c.in-Err.ensures.plain (λ fs h no. unread_behind c.args.slot _ _ c.in-Err.status h)

pub returns-in-Ok-clause-plain : goal.returns-in-Ok-clause-plain
returns-in-Ok-clause-plain g c =
    IfSome_then (g.O.Outside.files c.args.outside.now) c.in-Ok.ensures.read
    (λ fs h no. matrix_behind c.args.slot (content_of fs c.args.name.now) (input_of c.finished.result) h.0 no (c.finished.ensures.plain (content_of fs c.args.name.now) h))

pub returns-in-Ok-clause-refusal : goal.returns-in-Ok-clause-refusal
returns-in-Ok-clause-refusal g c =
    IfErr-weaker c.finished.result _ _
    (λ s h. inner_refusal (reads c.args.slot c.args.name.now ∷ []) (g.O.Outside.faults c.args.outside.now) (g.O.Outside.faults c.feed_file.new.outside) s h) c.finished.ensures.refusal
