use Rattle.std.proofs.Common.{[], ◌∷◌, ◌++◌, refl, sym, ap, ◌∙◌, arith, rules}
use Rattle.std.proofs.lemmas.Result.{err_from_is_err_and}
use Rattle.us_code_table.specs.declared.mark.Mark.TheVariants as m
use Rattle.us_code_table.specs.declared.lexeme.Lexeme.TheVariants as lexeme
use Rattle.us_code_table.specs.Table.{Gives, MoreGives, grammar}
use Rattle.us_code_text.specs.Reads.{answer_of}
use Rattle.us_code_text.proofs.Chains.{via, took}
use Rattle.us_code_reader.proofs.phases.gives.Goals.{in_default-via-in-Token+in_default, in_default-via-in_default}
use Rattle.us_code_table.specs.Limits.{limits}
use Rattle.us_grammar.specs.Reading.{Lacks}
use Rattle.std.proofs.lemmas.List.{append-nil}
use Rattle.us_code_text.specs.Reads.{text_of, count_of, size}
use Rattle.us_code_reader.proofs.Parts.{makes_same, goes_on, goes_last, adds, without, lacks_only}
use Rattle.us_code_reader.proofs.phases.gives.Goals as goal

pub more-init : goal.more-init
more-init c =
    let number = c.in-Token-Buffer.number in (
      makes_same Gives MoreGives (text_of c.args.reader.now) (count_of c.args.reader.now) (text_of c.take.new.self) (count_of c.take.new.self) (λ xs. number ∷ xs) (λ xs. c.push.new.self ++ xs)
          (λ v. sym (ap (λ xs. xs ++ v) (c.in_ok-push.ensures.ok ∙ ap (λ xs. xs ++ number ∷ []) c.new-gives.ensures))) (λ y s k. took Gives (lexeme.Buffer number) _ _ _ _ _ refl c.in_ok-take.ensures.ok y s k),
      omega (arith, ap size c.in_ok-take.ensures.ok.parts),
    )

pub returns-in_default : goal.returns-in_default
returns-in_default c =
    let none : Lacks grammar limits Gives (text_of c.args.reader.now) = elim c.in_default.branch [ in_default-via-in-Token+in_default w ↦ search rules | in_default-via-in_default w ↦ search rules ] in
    rw c.new-gives.ensures (λ y s k. without Gives [] (text_of c.args.reader.now) (count_of c.args.reader.now) refl none y s k, omega arith)

pub more-preserved : goal.more-preserved
more-preserved c =
    let name = c.in_ok-name.name in (
      goes_on Gives MoreGives (text_of c.args.reader.now) (count_of c.args.reader.now) (text_of c.more.reader) (count_of c.more.reader) (text_of c.given_name.new.self) (count_of c.given_name.new.self) (λ xs. c.more.gives ++ xs) (λ xs. name ∷ xs) (λ xs. c.push-in-more.new.self ++ xs) c.more.invariant.0
          (λ y s k. took MoreGives (lexeme.Fixed m.Comma) _ _ _ _ _ refl c.in_ok-take-2.ensures.ok y s k ∙ c.in_ok-name.ensures.0 _ _ _)
          (λ v. adds c.more.gives c.push-in-more.new.self name v c.in_ok-push-2.ensures.ok),
      omega (arith, ap size c.in_ok-take-2.ensures.ok.parts, c.in_ok-name.ensures.1, c.more.invariant.1),
    )

pub returns : goal.returns
returns c =
    let ends = without MoreGives [] (text_of c.more.reader) (count_of c.more.reader) refl (lacks_only MoreGives m.Comma _ (text_of c.more.reader) refl refl (c.stands.ensures.no c.more-test.false)) in
    (goes_last Gives MoreGives (text_of c.args.reader.now) (count_of c.args.reader.now) (text_of c.more.reader) (count_of c.more.reader) (text_of c.more.reader) (count_of c.more.reader) (λ xs. c.more.gives ++ xs) [] c.more.gives c.more.invariant.0 ends (append-nil c.more.gives), c.more.invariant.1)

pub returns-in_err-name : goal.returns-in_err-name
returns-in_err-name c =
    let p = err_from_is_err_and c.from_residual-in_err-name.result c.from_residual-in_err-name.ensures.1 in
    rw (p.1, p.2) (λ y s k. via (answer_of c.in_err-name.field-0.0) (c.more.invariant.0 y s k ∙ took MoreGives (lexeme.Fixed m.Comma) _ _ _ _ _ refl c.in_ok-take-2.ensures.ok y s _) (c.in_err-name.ensures _ _ _))
