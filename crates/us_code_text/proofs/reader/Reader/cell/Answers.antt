use Rattle.std.proofs.Common.{refl}
use Rattle.std.proofs.lemmas.Result.{err_from_is_err_and}
use Rattle.us_code_table.specs.declared.mark.Mark.TheVariants as m
use Rattle.us_code_table.specs.declared.lexeme.Lexeme.TheVariants as lexeme
use Rattle.us_code_table.specs.Table.{Kind}
use Rattle.us_code_text.specs.Reads.{answer_of}
use Rattle.us_code_text.proofs.Chains.{via, took}
use Rattle.us_code_text.proofs.reader.Reader.cell.Goals as goal

pub returns-in_err-dim-in-Token-Fixed-Below : goal.returns-in_err-dim-in-Token-Fixed-Below
returns-in_err-dim-in-Token-Fixed-Below c =
    let p = err_from_is_err_and c.from_residual-in_err-dim-in-Token-Fixed-Below.result c.from_residual-in_err-dim-in-Token-Fixed-Below.ensures.1 in
    rw (p.1, p.2) (λ y s k. via (answer_of c.in_err-dim-in-Token-Fixed-Below.field-0.0) (took Kind (lexeme.Fixed m.Below) _ _ _ _ _ refl c.in_ok-take-in-Token-Fixed-Below.ensures.ok y s k) (c.in_err-dim-in-Token-Fixed-Below.ensures _ _ _))
