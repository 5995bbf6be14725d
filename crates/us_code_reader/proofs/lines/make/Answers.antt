use Rattle.std.proofs.Common.{refl, ◌∙◌}
use Rattle.std.proofs.lemmas.Result.{err_from_is_err_and}
use Rattle.us_code_table.specs.declared.mark.Mark.TheVariants as m
use Rattle.us_code_table.specs.declared.lexeme.Lexeme.TheVariants as lexeme
use Rattle.us_code_table.specs.Table.{Makes}
use Rattle.us_code_text.specs.Reads.{answer_of}
use Rattle.us_code_text.proofs.Chains.{via, took}
use Rattle.us_code_reader.proofs.lines.make.Goals as goal

pub returns-in_err-buf : goal.returns-in_err-buf
returns-in_err-buf c =
    let p = err_from_is_err_and c.from_residual-in_err-buf.result c.from_residual-in_err-buf.ensures.1 in
    rw (p.1, p.2) (λ y s k. via (answer_of c.in_err-buf.field-0.0) (took Makes (lexeme.Fixed m.New) _ _ _ _ _ refl c.in_ok-take.ensures.ok y s k) (c.in_err-buf.ensures _ _ _))

pub returns-in_err-expect : goal.returns-in_err-expect
returns-in_err-expect c =
    let p = err_from_is_err_and c.from_residual-in_err-expect.result c.from_residual-in_err-expect.ensures.1 in
    rw (p.1, p.2) (λ y s k. via (answer_of c.in_err-expect.field-0.0) (took Makes (lexeme.Fixed m.New) _ _ _ _ _ refl c.in_ok-take.ensures.ok y s k ∙ c.in_ok-buf.ensures.0 _ _ _) (c.in_err-expect.ensures _ _ _))

pub returns-in_err-len : goal.returns-in_err-len
returns-in_err-len c =
    let p = err_from_is_err_and c.from_residual-in_err-len.result c.from_residual-in_err-len.ensures.1 in
    rw (p.1, p.2) (λ y s k. via (answer_of c.in_err-len.field-0.0) (took Makes (lexeme.Fixed m.New) _ _ _ _ _ refl c.in_ok-take.ensures.ok y s k ∙ c.in_ok-buf.ensures.0 _ _ _ ∙ c.in_ok-expect.ensures.0 _ _ _) (c.in_err-len.ensures _ _ _))

pub returns-in_err-expect-2 : goal.returns-in_err-expect-2
returns-in_err-expect-2 c =
    let p = err_from_is_err_and c.from_residual-in_err-expect-2.result c.from_residual-in_err-expect-2.ensures.1 in
    rw (p.1, p.2) (λ y s k. via (answer_of c.in_err-expect-2.field-0.0) (took Makes (lexeme.Fixed m.New) _ _ _ _ _ refl c.in_ok-take.ensures.ok y s k ∙ c.in_ok-buf.ensures.0 _ _ _ ∙ c.in_ok-expect.ensures.0 _ _ _ ∙ c.in_ok-len.ensures.0 _ _ _) (c.in_err-expect-2.ensures _ _ _))

pub returns-in_err-cell : goal.returns-in_err-cell
returns-in_err-cell c =
    let p = err_from_is_err_and c.from_residual-in_err-cell.result c.from_residual-in_err-cell.ensures.1 in
    rw (p.1, p.2) (λ y s k. via (answer_of c.in_err-cell.field-0.0) (took Makes (lexeme.Fixed m.New) _ _ _ _ _ refl c.in_ok-take.ensures.ok y s k ∙ c.in_ok-buf.ensures.0 _ _ _ ∙ c.in_ok-expect.ensures.0 _ _ _ ∙ c.in_ok-len.ensures.0 _ _ _ ∙ c.in_ok-expect-2.ensures.0 _ _ _) (c.in_err-cell.ensures _ _ _))
