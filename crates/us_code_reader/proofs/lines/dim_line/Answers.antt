use Rattle.std.proofs.Common.{refl, ◌∙◌}
use Rattle.std.proofs.lemmas.Result.{err_from_is_err_and}
use Rattle.us_code_table.specs.declared.mark.Mark.TheVariants as m
use Rattle.us_code_table.specs.declared.lexeme.Lexeme.TheVariants as lexeme
use Rattle.us_code_table.specs.Table.{DimLines}
use Rattle.us_code_text.specs.Reads.{answer_of}
use Rattle.us_code_text.proofs.Chains.{via, took}
use Rattle.us_code_reader.proofs.lines.dim_line.Goals as goal

pub returns-in_err-dim : goal.returns-in_err-dim
returns-in_err-dim c =
    let p = err_from_is_err_and c.from_residual-in_err-dim.result c.from_residual-in_err-dim.ensures.1 in
    rw (p.1, p.2) (λ y s k. via (answer_of c.in_err-dim.field-0.0) (took DimLines (lexeme.Fixed m.Dim) _ _ _ _ _ refl c.in_ok-take.ensures.ok y s k) (c.in_err-dim.ensures _ _ _))

pub returns-in_err-shape : goal.returns-in_err-shape
returns-in_err-shape c =
    let p = err_from_is_err_and c.from_residual-in_err-shape.result c.from_residual-in_err-shape.ensures.1 in
    rw (p.1, p.2) (λ y s k. via (answer_of c.in_err-shape.field-0.0) (took DimLines (lexeme.Fixed m.Dim) _ _ _ _ _ refl c.in_ok-take.ensures.ok y s k ∙ c.in_ok-dim.ensures.0 _ _ _) (c.in_err-shape.ensures _ _ _))
