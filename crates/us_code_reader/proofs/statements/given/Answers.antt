use Rattle.std.proofs.Common.{refl, ◌∙◌, rules}
use Rattle.std.proofs.lemmas.Result.{err_from_is_err_and}
use Rattle.us_code_table.specs.declared.lexeme.Lexeme.TheVariants as lexeme
use Rattle.us_code_table.specs.Table.{LetTail, grammar}
use Rattle.us_code_text.specs.Reads.{answer_of}
use Rattle.us_code_text.proofs.Chains.{via, took}
use Rattle.us_code_reader.proofs.statements.given.Goals.{in_default-via-in-Token+in_default, in_default-via-in_default}
use Rattle.us_grammar.proofs.Steps.{Avoids}
use Rattle.us_code.specs.Plain.{ProgramTree}
use Rattle.us_code_table.specs.Limits.{limits}
use Rattle.us_code_text.specs.Reads.{text_of, count_of}
use Rattle.us_code_reader.proofs.Parts.{buffers, computed}
use Rattle.us_code_reader.proofs.statements.given.Goals as goal

pub returns-in_err-at-in-Token-Buffer : goal.returns-in_err-at-in-Token-Buffer
returns-in_err-at-in-Token-Buffer c =
    let p = err_from_is_err_and c.from_residual-in_err-at-in-Token-Buffer.result c.from_residual-in_err-at-in-Token-Buffer.ensures.1 in
    rw (p.1, p.2) (λ y s k. via (answer_of c.in_err-at-in-Token-Buffer.field-0.0) (took LetTail (lexeme.Buffer c.in-Token-Buffer.number) _ _ _ _ _ refl c.in_ok-take-in-Token-Buffer.ensures.ok y s k) (c.in_err-at-in-Token-Buffer.ensures _ _ _))

pub returns-in_err-at-in-Token-Source : goal.returns-in_err-at-in-Token-Source
returns-in_err-at-in-Token-Source c =
    let p = err_from_is_err_and c.from_residual-in_err-at-in-Token-Source.result c.from_residual-in_err-at-in-Token-Source.ensures.1 in
    rw (p.1, p.2) (λ y s k. via (answer_of c.in_err-at-in-Token-Source.field-0.0) (took LetTail (lexeme.Source c.in-Token-Source.number) _ _ _ _ _ refl c.in_ok-take-in-Token-Source.ensures.ok y s k) (c.in_err-at-in-Token-Source.ensures _ _ _))

pub returns-in_err-value-in_default : goal.returns-in_err-value-in_default
returns-in_err-value-in_default c =
    let p = err_from_is_err_and c.from_residual-in_err-value-in_default.result c.from_residual-in_err-value-in_default.ensures.1 in
    let h : Avoids grammar limits ProgramTree {n = LetTail} buffers (text_of c.args.reader.now) = elim c.in_default.branch [ in_default-via-in-Token+in_default w ↦ search rules | in_default-via-in_default w ↦ search rules ] in
    rw (p.1, p.2) (λ y s k. via (answer_of c.in_err-value-in_default.field-0.0) (computed (text_of c.args.reader.now) (count_of c.args.reader.now) h y s k) (c.in_err-value-in_default.ensures _ _ _))

pub returns-in_ok-value-in_default : goal.returns-in_ok-value-in_default
returns-in_ok-value-in_default c =
    let h : Avoids grammar limits ProgramTree {n = LetTail} buffers (text_of c.args.reader.now) = elim c.in_default.branch [ in_default-via-in-Token+in_default w ↦ search rules | in_default-via-in_default w ↦ search rules ] in
    (λ y s k. computed (text_of c.args.reader.now) (count_of c.args.reader.now) h y s k ∙ c.in_ok-value-in_default.ensures.0 _ _ _, c.in_ok-value-in_default.ensures.1)
