use Rattle.std.proofs.Common.{refl, ◌∙◌}
use Rattle.std.proofs.lemmas.Result.{err_from_is_err_and}
use Rattle.us_code_table.specs.declared.mark.Mark.TheVariants as m
use Rattle.us_code_table.specs.declared.lexeme.Lexeme.TheVariants as lexeme
use Rattle.us_code_table.specs.Table.{Phases}
use Rattle.us_code_text.specs.Reads.{answer_of}
use Rattle.us_code_text.proofs.Chains.{via, took}
use Rattle.us_code_reader.proofs.phases.phase.Goals as goal

pub returns-in_err-expect : goal.returns-in_err-expect
returns-in_err-expect c =
    let p = err_from_is_err_and c.from_residual-in_err-expect.result c.from_residual-in_err-expect.ensures.1 in
    rw (p.1, p.2) (λ y s k. via (answer_of c.in_err-expect.field-0.0) (took Phases (lexeme.Fixed m.Phase) _ _ _ _ _ refl c.in_ok-take.ensures.ok y s k) (c.in_err-expect.ensures _ _ _))

pub returns-in_err-makes : goal.returns-in_err-makes
returns-in_err-makes c =
    let p = err_from_is_err_and c.from_residual-in_err-makes.result c.from_residual-in_err-makes.ensures.1 in
    rw (p.1, p.2) (λ y s k. via (answer_of c.in_err-makes.field-0.0) (took Phases (lexeme.Fixed m.Phase) _ _ _ _ _ refl c.in_ok-take.ensures.ok y s k ∙ c.in_ok-expect.ensures.0 _ _ _) (c.in_err-makes.ensures _ _ _))

pub returns-in_err-expect-2 : goal.returns-in_err-expect-2
returns-in_err-expect-2 c =
    let p = err_from_is_err_and c.from_residual-in_err-expect-2.result c.from_residual-in_err-expect-2.ensures.1 in
    rw (p.1, p.2) (λ y s k. via (answer_of c.in_err-expect-2.field-0.0) (took Phases (lexeme.Fixed m.Phase) _ _ _ _ _ refl c.in_ok-take.ensures.ok y s k ∙ c.in_ok-expect.ensures.0 _ _ _ ∙ c.in_ok-makes.ensures.0 _ _ _) (c.in_err-expect-2.ensures _ _ _))

pub returns-in_err-body : goal.returns-in_err-body
returns-in_err-body c =
    let p = err_from_is_err_and c.from_residual-in_err-body.result c.from_residual-in_err-body.ensures.1 in
    rw (p.1, p.2) (λ y s k. via (answer_of c.in_err-body.field-0.0) (took Phases (lexeme.Fixed m.Phase) _ _ _ _ _ refl c.in_ok-take.ensures.ok y s k ∙ c.in_ok-expect.ensures.0 _ _ _ ∙ c.in_ok-makes.ensures.0 _ _ _ ∙ c.in_ok-expect-2.ensures.0 _ _ _) (c.in_err-body.ensures _ _ _))

pub returns-in_err-dims : goal.returns-in_err-dims
returns-in_err-dims c =
    let p = err_from_is_err_and c.from_residual-in_err-dims.result c.from_residual-in_err-dims.ensures.1 in
    rw (p.1, p.2) (λ y s k. via (answer_of c.in_err-dims.field-0.0) (took Phases (lexeme.Fixed m.Phase) _ _ _ _ _ refl c.in_ok-take.ensures.ok y s k ∙ c.in_ok-expect.ensures.0 _ _ _ ∙ c.in_ok-makes.ensures.0 _ _ _ ∙ c.in_ok-expect-2.ensures.0 _ _ _ ∙ c.in_ok-body.ensures.0 _ _ _) (c.in_err-dims.ensures _ _ _))

pub returns-in_err-expect-3 : goal.returns-in_err-expect-3
returns-in_err-expect-3 c =
    let p = err_from_is_err_and c.from_residual-in_err-expect-3.result c.from_residual-in_err-expect-3.ensures.1 in
    rw (p.1, p.2) (λ y s k. via (answer_of c.in_err-expect-3.field-0.0) (took Phases (lexeme.Fixed m.Phase) _ _ _ _ _ refl c.in_ok-take.ensures.ok y s k ∙ c.in_ok-expect.ensures.0 _ _ _ ∙ c.in_ok-makes.ensures.0 _ _ _ ∙ c.in_ok-expect-2.ensures.0 _ _ _ ∙ c.in_ok-body.ensures.0 _ _ _ ∙ c.in_ok-dims.ensures.0 _ _ _) (c.in_err-expect-3.ensures _ _ _))
