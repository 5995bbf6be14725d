use Rattle.std.proofs.Common.{refl, ◌∙◌}
use Rattle.std.proofs.lemmas.Result.{err_from_is_err_and}
use Rattle.us_code_table.specs.declared.mark.Mark.TheVariants as m
use Rattle.us_code_table.specs.Table.{Whole}
use Rattle.us_code_text.specs.Reads.{text_of, count_of, answer_of}
use Rattle.us_code_text.proofs.Chains.{via}
use Rattle.us_code_reader.proofs.Parts.{lacks_only}
use Rattle.us_code_reader.proofs.Whole.{began, too_big, no_code}
use Rattle.us_code_reader.proofs.parsing.program.Goals as goal

pub returns-then-not-stands : goal.returns-then-not-stands
returns-then-not-stands c =
    rw c.refusal.ensures (no_code (text_of c.args.reader.now) (count_of c.args.reader.now) (lacks_only Whole m.Code _ (text_of c.args.reader.now) refl refl (c.stands.ensures.no c.if-not-stands.true)))

pub returns-in_err-take : goal.returns-in_err-take
returns-in_err-take c =
    let p = err_from_is_err_and c.from_residual.result c.from_residual.ensures.1 in
    rw (p.1, p.2) (rw c.in_err-take.ensures.err.0 (too_big (text_of c.args.reader.now) (count_of c.args.reader.now) c.in_err-take.ensures.err.1))

pub returns-in_err-sources : goal.returns-in_err-sources
returns-in_err-sources c =
    let p = err_from_is_err_and c.from_residual-in_err-sources.result c.from_residual-in_err-sources.ensures.1 in
    rw (p.1, p.2) (via (answer_of c.in_err-sources.field-0.0) (began (text_of c.args.reader.now) (count_of c.args.reader.now) _ _ c.in_ok-take.ensures.ok) (c.in_err-sources.ensures _ _ _))

pub returns-in_err-expect : goal.returns-in_err-expect
returns-in_err-expect c =
    let p = err_from_is_err_and c.from_residual-in_err-expect.result c.from_residual-in_err-expect.ensures.1 in
    rw (p.1, p.2) (via (answer_of c.in_err-expect.field-0.0) (began (text_of c.args.reader.now) (count_of c.args.reader.now) _ _ c.in_ok-take.ensures.ok ∙ c.in_ok-sources.ensures.0 _ _ _) (c.in_err-expect.ensures _ _ _))

pub returns-in_err-phases : goal.returns-in_err-phases
returns-in_err-phases c =
    let p = err_from_is_err_and c.from_residual-in_err-phases.result c.from_residual-in_err-phases.ensures.1 in
    rw (p.1, p.2) (via (answer_of c.in_err-phases.field-0.0) (began (text_of c.args.reader.now) (count_of c.args.reader.now) _ _ c.in_ok-take.ensures.ok ∙ c.in_ok-sources.ensures.0 _ _ _ ∙ c.in_ok-expect.ensures.0 _ _ _) (c.in_err-phases.ensures _ _ _))

pub returns-in_err-expect-2 : goal.returns-in_err-expect-2
returns-in_err-expect-2 c =
    let p = err_from_is_err_and c.from_residual-in_err-expect-2.result c.from_residual-in_err-expect-2.ensures.1 in
    rw (p.1, p.2) (via (answer_of c.in_err-expect-2.field-0.0) (began (text_of c.args.reader.now) (count_of c.args.reader.now) _ _ c.in_ok-take.ensures.ok ∙ c.in_ok-sources.ensures.0 _ _ _ ∙ c.in_ok-expect.ensures.0 _ _ _ ∙ c.in_ok-phases.ensures.0 _ _ _) (c.in_err-expect-2.ensures _ _ _))

pub returns-in_err-give : goal.returns-in_err-give
returns-in_err-give c =
    let p = err_from_is_err_and c.from_residual-in_err-give.result c.from_residual-in_err-give.ensures.1 in
    rw (p.1, p.2) (via (answer_of c.in_err-give.field-0.0) (began (text_of c.args.reader.now) (count_of c.args.reader.now) _ _ c.in_ok-take.ensures.ok ∙ c.in_ok-sources.ensures.0 _ _ _ ∙ c.in_ok-expect.ensures.0 _ _ _ ∙ c.in_ok-phases.ensures.0 _ _ _ ∙ c.in_ok-expect-2.ensures.0 _ _ _) (c.in_err-give.ensures _ _ _))

pub returns-in_err-behind : goal.returns-in_err-behind
returns-in_err-behind c =
    let p = err_from_is_err_and c.from_residual-in_err-behind.result c.from_residual-in_err-behind.ensures.1 in
    rw (p.1, p.2) (via (answer_of c.in_err-behind.field-0.0) (began (text_of c.args.reader.now) (count_of c.args.reader.now) _ _ c.in_ok-take.ensures.ok ∙ c.in_ok-sources.ensures.0 _ _ _ ∙ c.in_ok-expect.ensures.0 _ _ _ ∙ c.in_ok-phases.ensures.0 _ _ _ ∙ c.in_ok-expect-2.ensures.0 _ _ _ ∙ c.in_ok-give.ensures.0 _ _ _) (c.in_err-behind.ensures _))

pub returns : goal.returns
returns c = (c.in_ok-behind.ensures.0, began (text_of c.args.reader.now) (count_of c.args.reader.now) _ _ c.in_ok-take.ensures.ok ∙ c.in_ok-sources.ensures.0 _ _ _ ∙ c.in_ok-expect.ensures.0 _ _ _ ∙ c.in_ok-phases.ensures.0 _ _ _ ∙ c.in_ok-expect-2.ensures.0 _ _ _ ∙ c.in_ok-give.ensures.0 _ _ _ ∙ c.in_ok-behind.ensures.1 _)
