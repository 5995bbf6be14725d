use Rattle.std.proofs.Common.{refl}
use Rattle.std.proofs.lemmas.Result.{err_from_is_err_and}
use Rattle.us_code_table.specs.declared.mark.Mark.TheVariants as m
use Rattle.us_code_table.specs.declared.lexeme.Lexeme.TheVariants as lexeme
use Rattle.us_code_table.specs.Table.{Behind}
use Rattle.us_code_text.specs.Reads.{answer_of}
use Rattle.us_code_text.proofs.Chains.{via, took}
use Rattle.us_code_reader.proofs.lines.factor.Goals as goal

pub returns-in_err-right-in-Token-Fixed-Star : goal.returns-in_err-right-in-Token-Fixed-Star
returns-in_err-right-in-Token-Fixed-Star c =
    let p = err_from_is_err_and c.from_residual-in_err-right-in-Token-Fixed-Star.result c.from_residual-in_err-right-in-Token-Fixed-Star.ensures.1 in
    rw (p.1, p.2) (λ y s k. via (answer_of c.in_err-right-in-Token-Fixed-Star.field-0.0) (took Behind (lexeme.Fixed m.Star) _ _ _ _ _ refl c.in_ok-take-in-Token-Fixed-Star.ensures.ok y s k) (c.in_err-right-in-Token-Fixed-Star.ensures _ _ _))

pub returns-in_err-one-in-Token-Fixed-Plus : goal.returns-in_err-one-in-Token-Fixed-Plus
returns-in_err-one-in-Token-Fixed-Plus c =
    let p = err_from_is_err_and c.from_residual-in_err-one-in-Token-Fixed-Plus.result c.from_residual-in_err-one-in-Token-Fixed-Plus.ensures.1 in
    rw (p.1, p.2) (λ y s k. via (answer_of c.in_err-one-in-Token-Fixed-Plus.field-0.0) (took Behind (lexeme.Fixed m.Plus) _ _ _ _ _ refl c.in_ok-take-in-Token-Fixed-Plus.ensures.ok y s k) (c.in_err-one-in-Token-Fixed-Plus.ensures _ _ _))
