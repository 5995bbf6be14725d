use Rattle.std.proofs.Common.{refl, ◌∙◌}
use Rattle.std.proofs.lemmas.Result.{err_from_is_err_and}
use Rattle.us_code_table.specs.declared.mark.Mark.TheVariants as m
use Rattle.us_code_table.specs.declared.lexeme.Lexeme.TheVariants as lexeme
use Rattle.us_code_table.specs.Table.{LineTail}
use Rattle.us_code_text.specs.Reads.{answer_of}
use Rattle.us_code_text.proofs.Chains.{via, took}
use Rattle.us_code_reader.proofs.lines.shape.Goals as goal

pub returns-in_err-value-in-Token-Fixed-Of : goal.returns-in_err-value-in-Token-Fixed-Of
returns-in_err-value-in-Token-Fixed-Of c =
    let p = err_from_is_err_and c.from_residual-in_err-value-in-Token-Fixed-Of.result c.from_residual-in_err-value-in-Token-Fixed-Of.ensures.1 in
    rw (p.1, p.2) (λ y s k. via (answer_of c.in_err-value-in-Token-Fixed-Of.field-0.0) (took LineTail (lexeme.Fixed m.Of) _ _ _ _ _ refl c.in_ok-take-in-Token-Fixed-Of.ensures.ok y s k) (c.in_err-value-in-Token-Fixed-Of.ensures _ _ _))

pub returns-in_err-left-in-Token-Fixed-Equal : goal.returns-in_err-left-in-Token-Fixed-Equal
returns-in_err-left-in-Token-Fixed-Equal c =
    let p = err_from_is_err_and c.from_residual-in_err-left-in-Token-Fixed-Equal.result c.from_residual-in_err-left-in-Token-Fixed-Equal.ensures.1 in
    rw (p.1, p.2) (λ y s k. via (answer_of c.in_err-left-in-Token-Fixed-Equal.field-0.0) (took LineTail (lexeme.Fixed m.Equal) _ _ _ _ _ refl c.in_ok-take-in-Token-Fixed-Equal.ensures.ok y s k) (c.in_err-left-in-Token-Fixed-Equal.ensures _ _ _))

pub returns-in_err-right-in-Token-Fixed-Equal : goal.returns-in_err-right-in-Token-Fixed-Equal
returns-in_err-right-in-Token-Fixed-Equal c =
    let p = err_from_is_err_and c.from_residual-in_err-right-in-Token-Fixed-Equal.result c.from_residual-in_err-right-in-Token-Fixed-Equal.ensures.1 in
    rw (p.1, p.2) (λ y s k. via (answer_of c.in_err-right-in-Token-Fixed-Equal.field-0.0) (took LineTail (lexeme.Fixed m.Equal) _ _ _ _ _ refl c.in_ok-take-in-Token-Fixed-Equal.ensures.ok y s k ∙ c.in_ok-left-in-Token-Fixed-Equal.ensures.0 _ _ _) (c.in_err-right-in-Token-Fixed-Equal.ensures _ _ _))
