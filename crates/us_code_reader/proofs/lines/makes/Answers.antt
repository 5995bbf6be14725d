use Rattle.std.proofs.Common.{[], ◌∷◌, ◌++◌, refl, arith}
use Rattle.std.proofs.lemmas.Result.{err_from_is_err_and}
use Rattle.us_code_table.specs.declared.mark.Mark.TheVariants as m
use Rattle.us_code_table.specs.Table.{Makes}
use Rattle.us_code_text.specs.Reads.{answer_of}
use Rattle.us_code_text.proofs.Chains.{via}
use Rattle.std.proofs.lemmas.List.{append-nil}
use Rattle.us_code_text.specs.Reads.{text_of, count_of}
use Rattle.us_code_reader.proofs.Parts.{goes_on, goes_last, adds, without, lacks_only}
use Rattle.us_code_reader.proofs.lines.makes.Goals as goal

pub returns-in_err-make : goal.returns-in_err-make
returns-in_err-make c =
    let p = err_from_is_err_and c.from_residual.result c.from_residual.ensures.1 in
    rw (p.1, p.2) (λ y s k. via (answer_of c.in_err-make.field-0.0) (c.more.invariant.0 y s k) (c.in_err-make.ensures _ _ _))

pub more-preserved : goal.more-preserved
more-preserved c = (
  goes_on Makes Makes (text_of c.args.reader.now) (count_of c.args.reader.now) (text_of c.more.reader) (count_of c.more.reader) (text_of c.make.new.reader) (count_of c.make.new.reader) (λ xs. c.more.makes ++ xs) (λ xs. c.in_ok-make.make ∷ xs) (λ xs. c.push.new.self ++ xs) c.more.invariant.0 c.in_ok-make.ensures.0
      (λ v. adds (c.more.makes) (c.push.new.self) (c.in_ok-make.make) v c.in_ok-push.ensures.ok),
  omega (arith, c.in_ok-make.ensures.1, c.more.invariant.1),
)

pub returns : goal.returns
returns c =
    let ends = without Makes [] (text_of c.more.reader) (count_of c.more.reader) refl (lacks_only Makes m.New _ (text_of c.more.reader) refl refl (c.stands.ensures.no c.more-test.false)) in
    (goes_last Makes Makes (text_of c.args.reader.now) (count_of c.args.reader.now) (text_of c.more.reader) (count_of c.more.reader) (text_of c.more.reader) (count_of c.more.reader) (λ xs. c.more.makes ++ xs) [] (c.more.makes) c.more.invariant.0 ends (append-nil (c.more.makes)), c.more.invariant.1)
