use Rattle.std.proofs.lemmas.Option.{IfSome_then}
use Rattle.std.proofs.lemmas.Result.{err_from_is_err_and}
use Rattle.us_outside.specs.Files.{content_of}
use Rattle.us_inputs.specs.Views.{input_of}
use Rattle.us_inputs.proofs.InputLemmas.{container_behind, unread_behind}
use Rattle.us_inputs.proofs.input.load_container.Goals as goal

pub returns-in_err-bytes-clause-plain : goal.returns-in_err-bytes-clause-plain
returns-in_err-bytes-clause-plain g c =
    let p = err_from_is_err_and c.from_residual.result c.from_residual.ensures.1 in
    rw (p.1, p.2) (IfSome_then (g.O.Outside.files c.args.outside.now) c.in_err-bytes.ensures.plain (λ fs h is. unread_behind c.args.slot _ _ _ h))

pub returns-clause-plain : goal.returns-clause-plain
returns-clause-plain g c =
    IfSome_then (g.O.Outside.files c.args.outside.now) c.in_ok-bytes.ensures.plain
    (λ fs h is. container_behind c.args.slot (content_of fs c.args.name.now) c.in_ok-bytes.bytes.items (input_of c.container_in.result) h is (rw c.deref.ensures.value at c.container_in.ensures.plain))
