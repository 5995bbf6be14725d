use Rattle.std.proofs.Common.{arith}
use Rattle.std.proofs.lemmas.Option.{IfSome_then}
use Rattle.us_outside.specs.Files.{content_of}
use Rattle.us_inputs.proofs.PiecesLemmas.{tells_container}
use Rattle.us_inputs.proofs.input.is_container.Goals as goal

pub returns-clause-tells : goal.returns-clause-tells
returns-clause-tells g c =
    IfSome_then (g.O.Outside.files c.args.outside.now) c.in-Ok.ensures.bytes
    (λ fs h. tells_container (content_of fs c.args.name.now) c.fill.new.room c.in-Ok.count c.starts_with.result (omega (arith, c.fill.auto.room)) h c.starts_with.ensures.value)
