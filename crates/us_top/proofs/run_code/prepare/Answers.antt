use Rattle.std.proofs.Common.{◌∷◌, [], Ok, Err}
use Rattle.std.proofs.lemmas.Option.{IfSome_then}
use Rattle.std.proofs.lemmas.Result.{IfErr-weaker, err_from_is_err_and}
use Rattle.us_status.specs.declared.status.Slot.TheVariants.{Code, Input}
use Rattle.us_status.specs.Uses.{reads}
use Rattle.us_inputs.specs.Views.{contained_of}
use Rattle.us_top.specs.Views.{target_view}
use Rattle.us_inputs.proofs.InputLemmas.{inner_refusal}
use Rattle.us_status.proofs.AnswerLemmas.{both, refusal_before, refusal_behind, refusal_in_front}
use Rattle.us_top.proofs.RunCodeLemmas.{source_before, code_ends, code_answer, source_ends, source_answer, ran_plain, ran_answer}
use Rattle.us_top.proofs.run_code.prepare.Goals as goal

pub returns-in_err-target-clause-plain : goal.returns-in_err-target-clause-plain
returns-in_err-target-clause-plain g c =
    let p = err_from_is_err_and c.from_residual.result c.from_residual.ensures.1 in
    rw (p.1, p.2)
    (IfSome_then (g.O.Outside.files c.args.outside.now) c.in_err-target.ensures.plain
    (λ fs h. code_ends c.args.code.now c.args.input.now c.args.budget fs c.in_err-target.field-0.0 h))

pub returns-in_err-target-clause-answer : goal.returns-in_err-target-clause-answer
returns-in_err-target-clause-answer g c =
    let p = err_from_is_err_and c.from_residual.result c.from_residual.ensures.1 in
    rw (p.1, p.2)
    (IfSome_then (g.O.Outside.files c.args.outside.now) c.in_err-target.ensures.plain
    (λ fs h.
    code_answer c.args.code.now c.args.input.now c.args.budget fs (g.O.Outside.faults c.args.outside.now) (g.O.Outside.faults c.read_target.new.outside) c.in_err-target.field-0.0 h
    c.in_err-target.ensures.refusal))

pub returns-in_err-target-clause-refusal : goal.returns-in_err-target-clause-refusal
returns-in_err-target-clause-refusal g c =
    let p = err_from_is_err_and c.from_residual.result c.from_residual.ensures.1 in
    rw (p.1, p.2)
    (refusal_in_front (g.O.Outside.faults c.args.outside.now) (g.O.Outside.faults c.read_target.new.outside) (reads Code c.args.code.now ∷ []) (reads Input c.args.input.now ∷ [])
    c.in_err-target.field-0.0
    c.in_err-target.ensures.refusal)

pub returns-in_err-source-clause-plain : goal.returns-in_err-source-clause-plain
returns-in_err-source-clause-plain g c =
    let p = err_from_is_err_and c.from_residual-in_err-source.result c.from_residual-in_err-source.ensures.1 in
    rw (p.1, p.2)
    (both (g.O.Outside.files c.args.outside.now) c.in_ok-target.ensures.plain (source_before c.args.input.now (Err c.in_err-source.field-0.0) _ _ c.in_ok-target.ensures.files c.in_err-source.ensures.plain)
    (λ fs e h. source_ends c.args.code.now c.args.input.now c.args.budget fs (target_view c.in_ok-target.target) c.in_err-source.field-0.0 e h))

pub returns-in_err-source-clause-answer : goal.returns-in_err-source-clause-answer
returns-in_err-source-clause-answer g c =
    let p = err_from_is_err_and c.from_residual-in_err-source.result c.from_residual-in_err-source.ensures.1 in
    rw (p.1, p.2)
    (both (g.O.Outside.files c.args.outside.now) c.in_ok-target.ensures.plain (source_before c.args.input.now (Err c.in_err-source.field-0.0) _ _ c.in_ok-target.ensures.files c.in_err-source.ensures.plain)
    (λ fs e h.
    source_answer c.args.code.now c.args.input.now c.args.budget fs (target_view c.in_ok-target.target) (g.O.Outside.faults c.read_target.new.outside) (g.O.Outside.faults c.read_source.new.outside)
    c.in_err-source.field-0.0 e h c.in_err-source.ensures.refusal))

pub returns-in_err-source-clause-refusal : goal.returns-in_err-source-clause-refusal
returns-in_err-source-clause-refusal g c =
    let p = err_from_is_err_and c.from_residual-in_err-source.result c.from_residual-in_err-source.ensures.1 in
    let before = g.O.Outside.faults c.args.outside.now in
    let middle = g.O.Outside.faults c.read_target.new.outside in
    let now = g.O.Outside.faults c.read_source.new.outside in
    let input = reads Input c.args.input.now ∷ [] in
    rw (p.1, p.2)
    (refusal_before before middle now (reads Code c.args.code.now ∷ input) c.in_err-source.field-0.0 c.in_ok-target.ensures.later
    (refusal_behind middle now (reads Code c.args.code.now) input c.in_err-source.field-0.0 c.in_err-source.ensures.refusal))

pub returns-clause-plain : goal.returns-clause-plain
returns-clause-plain g c =
    both (g.O.Outside.files c.args.outside.now) c.in_ok-target.ensures.plain (source_before c.args.input.now (Ok (contained_of c.in_ok-source.source)) _ _ c.in_ok-target.ensures.files c.in_ok-source.ensures.plain)
    (λ fs e h.
    ran_plain c.args.code.now c.args.input.now c.args.budget fs (target_view c.in_ok-target.target) (contained_of c.in_ok-source.source) c.result_of.result e h c.result_of.ensures.plain)

pub returns-clause-answer : goal.returns-clause-answer
returns-clause-answer g c =
    both (g.O.Outside.files c.args.outside.now) c.in_ok-target.ensures.plain (source_before c.args.input.now (Ok (contained_of c.in_ok-source.source)) _ _ c.in_ok-target.ensures.files c.in_ok-source.ensures.plain)
    (λ fs e h.
    ran_answer c.args.code.now c.args.input.now c.args.budget fs (target_view c.in_ok-target.target) (contained_of c.in_ok-source.source) c.result_of.result e h c.result_of.ensures.plain
    c.result_of.ensures.refusal)

pub returns-clause-refusal : goal.returns-clause-refusal
returns-clause-refusal g c =
    IfErr-weaker c.result_of.result _ _
    (λ s h. inner_refusal (reads Code c.args.code.now ∷ reads Input c.args.input.now ∷ []) (g.O.Outside.faults c.args.outside.now) (g.O.Outside.faults c.read_source.new.outside) s h)
    c.result_of.ensures.refusal
