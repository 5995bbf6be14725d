use Rattle.std.proofs.Common.{map, [], ◌∷◌, ◌++◌, refl, ap, ◌∙◌, arith}
use Rattle.std.proofs.lemmas.Result.{err_from_is_err_and}
use Rattle.us_code_table.specs.declared.mark.Mark.TheVariants as m
use Rattle.us_code_table.specs.Table.{Phases}
use Rattle.us_code_text.specs.Reads.{answer_of}
use Rattle.us_code_text.proofs.Chains.{via}
use Rattle.std.proofs.lemmas.List.{append-nil}
use Rattle.std.proofs.lemmas.List.{map-append}
use Rattle.us_code.specs.Plain.{phase_tree}
use Rattle.us_code_text.specs.Reads.{text_of, count_of}
use Rattle.us_code_reader.proofs.Parts.{goes_on, goes_last, adds, without, lacks_only}
use Rattle.us_code_reader.proofs.phases.phases.Goals as goal

pub returns-in_err-phase : goal.returns-in_err-phase
returns-in_err-phase c =
    let p = err_from_is_err_and c.from_residual.result c.from_residual.ensures.1 in
    rw (p.1, p.2) (λ y s k. via (answer_of c.in_err-phase.field-0.0) (c.more.invariant.0 y s k) (c.in_err-phase.ensures _ _ _))

pub more-preserved : goal.more-preserved
more-preserved c = (
  goes_on Phases Phases (text_of c.args.reader.now) (count_of c.args.reader.now) (text_of c.more.reader) (count_of c.more.reader) (text_of c.phase.new.reader) (count_of c.phase.new.reader) (λ xs. map phase_tree c.more.phases ++ xs) (λ xs. phase_tree c.in_ok-phase.phase ∷ xs) (λ xs. map phase_tree c.push.new.self ++ xs) c.more.invariant.0 c.in_ok-phase.ensures.0
      (λ v. adds (map phase_tree c.more.phases) (map phase_tree c.push.new.self) (phase_tree c.in_ok-phase.phase) v (ap (map phase_tree) c.in_ok-push.ensures.ok ∙ map-append phase_tree c.more.phases (c.in_ok-phase.phase ∷ []))),
  omega (arith, c.in_ok-phase.ensures.1, c.more.invariant.1),
)

pub returns : goal.returns
returns c =
    let ends = without Phases [] (text_of c.more.reader) (count_of c.more.reader) refl (lacks_only Phases m.Phase _ (text_of c.more.reader) refl refl (c.stands.ensures.no c.more-test.false)) in
    (goes_last Phases Phases (text_of c.args.reader.now) (count_of c.args.reader.now) (text_of c.more.reader) (count_of c.more.reader) (text_of c.more.reader) (count_of c.more.reader) (λ xs. map phase_tree c.more.phases ++ xs) [] (map phase_tree c.more.phases) c.more.invariant.0 ends (append-nil (map phase_tree c.more.phases)), c.more.invariant.1)
