use Rattle.std.proofs.Common.{refl, ◌∙◌}
use Rattle.std.proofs.lemmas.Result.{err_from_is_err_and}
use Rattle.us_code_table.specs.declared.mark.Mark.TheVariants as m
use Rattle.us_code_table.specs.declared.lexeme.Lexeme.TheVariants as lexeme
use Rattle.us_code_table.specs.Table.{Stmts}
use Rattle.us_code_text.specs.Reads.{answer_of}
use Rattle.us_code_text.proofs.Chains.{via, took}
use Rattle.us_code_reader.proofs.statements.set_statement.Goals as goal

pub returns-in_err-buf : goal.returns-in_err-buf
returns-in_err-buf c =
    let p = err_from_is_err_and c.from_residual-in_err-buf.result c.from_residual-in_err-buf.ensures.1 in
    rw (p.1, p.2) (λ y s k. via (answer_of c.in_err-buf.field-0.0) (took Stmts (lexeme.Fixed m.Set) _ _ _ _ _ refl c.in_ok-take.ensures.ok y s k) (c.in_err-buf.ensures _ _ _))

pub returns-in_err-at : goal.returns-in_err-at
returns-in_err-at c =
    let p = err_from_is_err_and c.from_residual-in_err-at.result c.from_residual-in_err-at.ensures.1 in
    rw (p.1, p.2) (λ y s k. via (answer_of c.in_err-at.field-0.0) (took Stmts (lexeme.Fixed m.Set) _ _ _ _ _ refl c.in_ok-take.ensures.ok y s k ∙ c.in_ok-buf.ensures.0 _ _ _) (c.in_err-at.ensures _ _ _))

pub returns-in_err-expect : goal.returns-in_err-expect
returns-in_err-expect c =
    let p = err_from_is_err_and c.from_residual-in_err-expect.result c.from_residual-in_err-expect.ensures.1 in
    rw (p.1, p.2) (λ y s k. via (answer_of c.in_err-expect.field-0.0) (took Stmts (lexeme.Fixed m.Set) _ _ _ _ _ refl c.in_ok-take.ensures.ok y s k ∙ c.in_ok-buf.ensures.0 _ _ _ ∙ c.in_ok-at.ensures.0 _ _ _) (c.in_err-expect.ensures _ _ _))

pub returns-in_err-value : goal.returns-in_err-value
returns-in_err-value c =
    let p = err_from_is_err_and c.from_residual-in_err-value.result c.from_residual-in_err-value.ensures.1 in
    rw (p.1, p.2) (λ y s k. via (answer_of c.in_err-value.field-0.0) (took Stmts (lexeme.Fixed m.Set) _ _ _ _ _ refl c.in_ok-take.ensures.ok y s k ∙ c.in_ok-buf.ensures.0 _ _ _ ∙ c.in_ok-at.ensures.0 _ _ _ ∙ c.in_ok-expect.ensures.0 _ _ _) (c.in_err-value.ensures _ _ _))
