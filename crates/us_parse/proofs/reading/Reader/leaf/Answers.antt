use Rattle.std.proofs.Common.{◌<◌, arith}
use Rattle.std.proofs.lemmas.Result.{err_from_is_err_and}
use Rattle.us_parse.specs.Piece.{Operand}
use Rattle.us_parse.proofs.Steps.{missed}
use Rattle.us_parse.proofs.Exprs.{goes_leaf, fails_operand}
use Rattle.us_parse.proofs.reading.Reader.leaf.Goals as goal

pub returns-in_err-operand : goal.returns-in_err-operand
returns-in_err-operand c = λ depth.
    let p = err_from_is_err_and c.from_residual.result c.from_residual.ensures.1 in
    rw (p.1, p.2) (λ u h os room fit long count names. missed c.in_err-operand.field-0.0 _ _ _ (Operand u h os) c.in_err-operand.ensures.err (fails_operand _ _ u h os names c.requires.open))

pub returns : goal.returns
returns c = λ depth. let few : c.args.nodes < 32 = omega arith in goes_leaf _ _ depth c.args.nodes _ _ _ few c.in_ok-operand.ensures.ok
