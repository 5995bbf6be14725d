use Rattle.std.proofs.Common.{[], ◌∷◌, ◌++◌, refl, sym, ap, ◌∙◌, arith}
use Rattle.std.proofs.lemmas.Result.{err_from_is_err_and}
use Rattle.us_code_table.specs.declared.mark.Mark.TheVariants as m
use Rattle.us_code_table.specs.declared.lexeme.Lexeme.TheVariants as lexeme
use Rattle.us_code_table.specs.Table.{Keys, MoreKeys}
use Rattle.us_code_text.specs.Reads.{answer_of}
use Rattle.us_code_text.proofs.Chains.{via, took}
use Rattle.us_code_text.specs.Reads.{text_of, count_of, size}
use Rattle.std.proofs.lemmas.List.{append-nil}
use Rattle.us_code_reader.proofs.Parts.{lost_key, key_first, makes_same, goes_on, goes_last, adds, without, lacks_only}
use Rattle.us_code_reader.proofs.statements.keys.Goals as goal

pub returns-in_err-first : goal.returns-in_err-first
returns-in_err-first c =
    let p = err_from_is_err_and c.from_residual.result c.from_residual.ensures.1 in
    rw (p.1, p.2) (lost_key (text_of c.args.reader.now) (count_of c.args.reader.now) c.in_err-first.field-0.0 c.in_err-first.ensures)

pub more-init : goal.more-init
more-init c =
    let first = c.in_ok-first.first in (
      makes_same Keys MoreKeys (text_of c.args.reader.now) (count_of c.args.reader.now) (text_of c.key.new.self) (count_of c.key.new.self) (λ es. first ∷ es) (λ es. c.push.new.self ++ es)
          (λ v. sym (ap (λ es. es ++ v) (c.in_ok-push.ensures.ok ∙ ap (λ es. es ++ first ∷ []) c.new-keys.ensures))) (key_first (text_of c.args.reader.now) (count_of c.args.reader.now) _ _ first c.in_ok-first.ensures.0),
      c.in_ok-first.ensures.1,
    )

pub more-preserved : goal.more-preserved
more-preserved c =
    let key = c.in_ok-key.key in (
      goes_on Keys MoreKeys (text_of c.args.reader.now) (count_of c.args.reader.now) (text_of c.more.reader) (count_of c.more.reader) (text_of c.key-in-more.new.self) (count_of c.key-in-more.new.self) (λ es. c.more.keys ++ es) (λ es. key ∷ es) (λ es. c.push-in-more.new.self ++ es) c.more.invariant.0
          (λ y s k. took MoreKeys (lexeme.Fixed m.Comma) _ _ _ _ _ refl c.in_ok-take.ensures.ok y s k ∙ c.in_ok-key.ensures.0 _ _ _)
          (λ v. adds c.more.keys c.push-in-more.new.self key v c.in_ok-push-2.ensures.ok),
      omega (arith, ap size c.in_ok-take.ensures.ok.parts, c.in_ok-key.ensures.1, c.more.invariant.1),
    )

pub returns : goal.returns
returns c =
    let ends = without MoreKeys [] (text_of c.more.reader) (count_of c.more.reader) refl (lacks_only MoreKeys m.Comma _ (text_of c.more.reader) refl refl (c.stands.ensures.no c.more-test.false)) in
    (goes_last Keys MoreKeys (text_of c.args.reader.now) (count_of c.args.reader.now) (text_of c.more.reader) (count_of c.more.reader) (text_of c.more.reader) (count_of c.more.reader) (λ es. c.more.keys ++ es) [] c.more.keys c.more.invariant.0 ends (append-nil c.more.keys), c.more.invariant.1)

pub returns-in_err-key : goal.returns-in_err-key
returns-in_err-key c =
    let p = err_from_is_err_and c.from_residual-in_err-key.result c.from_residual-in_err-key.ensures.1 in
    rw (p.1, p.2) (λ y s k. via (answer_of c.in_err-key.field-0.0) (c.more.invariant.0 y s k ∙ took MoreKeys (lexeme.Fixed m.Comma) _ _ _ _ _ refl c.in_ok-take.ensures.ok y s _) (c.in_err-key.ensures _ _ _))
