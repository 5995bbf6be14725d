use Rattle.std.proofs.Common.{◌<◌, length, arith}
use Rattle.std.proofs.lemmas.Result.{IfOk-weaker}
use Rattle.std.proofs.lemmas.Bool.Decides.{nat_tests}
use Rattle.us_journeys.proofs.ConversionLemmas.{meant_last, written_last}
use Rattle.us_journeys.proofs.conversion.written.Goals as goal

pub returns-clause-bytes : goal.returns-clause-bytes
returns-clause-bytes c =
    let some : 0 < length c.args.formats.now = grind (arith, nat_tests, c.if-is_empty.ensures) in
    IfOk-weaker c.container.result _ _
    (λ v e. written_last c.args.chain.now c.args.formats.now c.args.held.now v.items c.if-ends_in_text.ensures some c.requires e)
    c.container.ensures.bytes

pub returns-clause-means : goal.returns-clause-means
returns-clause-means c =
    let some : 0 < length c.args.formats.now = grind (arith, nat_tests, c.if-is_empty.ensures) in
    IfOk-weaker c.container.result _ _
    (λ v k. meant_last c.args.chain.now c.args.formats.now c.args.held.now v.items c.if-ends_in_text.ensures some c.requires k)
    c.container.ensures.means
