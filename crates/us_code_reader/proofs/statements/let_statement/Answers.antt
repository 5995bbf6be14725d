use Rattle.std.proofs.Common.{refl, ◌∙◌}
use Rattle.std.proofs.lemmas.Result.{err_from_is_err_and}
use Rattle.us_code_table.specs.declared.mark.Mark.TheVariants as m
use Rattle.us_code_table.specs.declared.lexeme.Lexeme.TheVariants as lexeme
use Rattle.us_code_table.specs.Table.{Stmts}
use Rattle.us_code_text.specs.Reads.{answer_of}
use Rattle.us_code_text.proofs.Chains.{via, took}
use Rattle.us_code_reader.proofs.statements.let_statement.Goals as goal

pub returns-in_err-reg : goal.returns-in_err-reg
returns-in_err-reg c =
    let p = err_from_is_err_and c.from_residual-in_err-reg.result c.from_residual-in_err-reg.ensures.1 in
    rw (p.1, p.2) (λ y s k. via (answer_of c.in_err-reg.field-0.0) (took Stmts (lexeme.Fixed m.Let) _ _ _ _ _ refl c.in_ok-take.ensures.ok y s k) (c.in_err-reg.ensures _ _ _))

pub returns-in_err-expect : goal.returns-in_err-expect
returns-in_err-expect c =
    let p = err_from_is_err_and c.from_residual-in_err-expect.result c.from_residual-in_err-expect.ensures.1 in
    rw (p.1, p.2) (λ y s k. via (answer_of c.in_err-expect.field-0.0) (took Stmts (lexeme.Fixed m.Let) _ _ _ _ _ refl c.in_ok-take.ensures.ok y s k ∙ c.in_ok-reg.ensures.0 _ _ _) (c.in_err-expect.ensures _ _ _))

pub returns-in_err-given : goal.returns-in_err-given
returns-in_err-given c =
    let p = err_from_is_err_and c.from_residual-in_err-given.result c.from_residual-in_err-given.ensures.1 in
    rw (p.1, p.2) (λ y s k. via (answer_of c.in_err-given.field-0.0) (took Stmts (lexeme.Fixed m.Let) _ _ _ _ _ refl c.in_ok-take.ensures.ok y s k ∙ c.in_ok-reg.ensures.0 _ _ _ ∙ c.in_ok-expect.ensures.0 _ _ _) (c.in_err-given.ensures _ _ _))
