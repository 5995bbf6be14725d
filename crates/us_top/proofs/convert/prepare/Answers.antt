use Rattle.std.proofs.Common.{◌∷◌, [], Ok, Err, sym}
use Rattle.std.proofs.lemmas.Option.{IfSome_then}
use Rattle.std.proofs.lemmas.Result.{IfErr-weaker, err_from_is_err_and}
use Rattle.us_status.specs.declared.status.Slot.TheVariants.{Formats, Input}
use Rattle.us_status.specs.Uses.{reads}
use Rattle.us_inputs.specs.Views.{input_view}
use Rattle.us_inputs.proofs.InputLemmas.{inner_refusal}
use Rattle.us_status.proofs.AnswerLemmas.{both, refusal_before, refusal_behind, refusal_in_front}
use Rattle.us_journeys.proofs.ConvertedLemmas.{all_made}
use Rattle.us_inputs.proofs.ChainedLemmas.{formats_answer, formats_end, input_answer, input_before, input_ends, make_answers, make_plain}
use Rattle.us_top.proofs.convert.prepare.Goals as goal

pub returns-in_err-formats-clause-plain : goal.returns-in_err-formats-clause-plain
returns-in_err-formats-clause-plain g c =
    let p = err_from_is_err_and c.from_residual.result c.from_residual.ensures.1 in
    rw (p.1, p.2)
    (IfSome_then (g.O.Outside.files c.args.outside.now) c.in_err-formats.ensures.plain
    (λ fs h. formats_end c.args.formats.now c.args.input.now c.args.chain.now fs c.in_err-formats.field-0.0 h))

pub returns-in_err-formats-clause-answer : goal.returns-in_err-formats-clause-answer
returns-in_err-formats-clause-answer g c =
    let p = err_from_is_err_and c.from_residual.result c.from_residual.ensures.1 in
    rw (p.1, p.2)
    (IfSome_then (g.O.Outside.files c.args.outside.now) c.in_err-formats.ensures.plain
    (λ fs h.
    formats_answer c.args.formats.now c.args.input.now c.args.chain.now fs (g.O.Outside.faults c.args.outside.now) (g.O.Outside.faults c.read_chain.new.outside) c.in_err-formats.field-0.0 h
    c.in_err-formats.ensures.refusal))

pub returns-in_err-formats-clause-refusal : goal.returns-in_err-formats-clause-refusal
returns-in_err-formats-clause-refusal g c =
    let p = err_from_is_err_and c.from_residual.result c.from_residual.ensures.1 in
    rw (p.1, p.2)
    (refusal_in_front (g.O.Outside.faults c.args.outside.now) (g.O.Outside.faults c.read_chain.new.outside) (reads Formats c.args.formats.now ∷ []) (reads Input c.args.input.now ∷ [])
    c.in_err-formats.field-0.0
    c.in_err-formats.ensures.refusal)

pub returns-in_err-input-clause-plain : goal.returns-in_err-input-clause-plain
returns-in_err-input-clause-plain g c =
    let p = err_from_is_err_and c.from_residual-in_err-input.result c.from_residual-in_err-input.ensures.1 in
    rw (p.1, p.2)
    (both (g.O.Outside.files c.args.outside.now) c.in_ok-formats.ensures.plain (input_before c.args.input.now (Err c.in_err-input.field-0.0) _ _ c.in_ok-formats.ensures.files c.in_err-input.ensures.plain)
    (λ fs e h. input_ends c.args.formats.now c.args.input.now c.args.chain.now fs c.in_ok-formats.formats.items c.in_err-input.field-0.0 e h))

pub returns-in_err-input-clause-answer : goal.returns-in_err-input-clause-answer
returns-in_err-input-clause-answer g c =
    let p = err_from_is_err_and c.from_residual-in_err-input.result c.from_residual-in_err-input.ensures.1 in
    rw (p.1, p.2)
    (both (g.O.Outside.files c.args.outside.now) c.in_ok-formats.ensures.plain (input_before c.args.input.now (Err c.in_err-input.field-0.0) _ _ c.in_ok-formats.ensures.files c.in_err-input.ensures.plain)
    (λ fs e h.
    input_answer c.args.formats.now c.args.input.now c.args.chain.now fs c.in_ok-formats.formats.items (g.O.Outside.faults c.read_chain.new.outside) (g.O.Outside.faults c.read_input.new.outside)
    c.in_err-input.field-0.0 e h c.in_err-input.ensures.refusal))

pub returns-in_err-input-clause-refusal : goal.returns-in_err-input-clause-refusal
returns-in_err-input-clause-refusal g c =
    let p = err_from_is_err_and c.from_residual-in_err-input.result c.from_residual-in_err-input.ensures.1 in
    let before = g.O.Outside.faults c.args.outside.now in
    let middle = g.O.Outside.faults c.read_chain.new.outside in
    let now = g.O.Outside.faults c.read_input.new.outside in
    let input = reads Input c.args.input.now ∷ [] in
    rw (p.1, p.2)
    (refusal_before before middle now (reads Formats c.args.formats.now ∷ input) c.in_err-input.field-0.0 c.in_ok-formats.ensures.later
    (refusal_behind middle now (reads Formats c.args.formats.now) input c.in_err-input.field-0.0 c.in_err-input.ensures.refusal))

pub make-requires : goal.make-requires
make-requires g c = rw c.deref.ensures.value c.in_ok-formats.ensures.few

pub returns-clause-made : goal.returns-clause-made
returns-clause-made g c =
    all_made c.args.formats.now c.args.input.now c.args.chain.now c.args.listed (g.O.Outside.files c.args.outside.now) c.in_ok-formats.formats.items (input_view c.in_ok-input.input) c.make.result
    c.in_ok-formats.ensures.plain
    (input_before c.args.input.now (Ok (input_view c.in_ok-input.input)) _ _ c.in_ok-formats.ensures.files c.in_ok-input.ensures.plain)
    (rw (sym c.deref.ensures.value) c.make.ensures.within)
    (rw (sym c.deref.ensures.value) c.make.ensures.made)

pub returns-clause-plain : goal.returns-clause-plain
returns-clause-plain g c =
    make_plain c.args.formats.now c.args.input.now c.args.chain.now (g.O.Outside.files c.args.outside.now) c.in_ok-formats.formats.items (input_view c.in_ok-input.input) c.make.result
    c.in_ok-formats.ensures.plain
    (input_before c.args.input.now (Ok (input_view c.in_ok-input.input)) _ _ c.in_ok-formats.ensures.files c.in_ok-input.ensures.plain)
    (rw (sym c.deref.ensures.value) c.make.ensures.plain)

pub returns-clause-answer : goal.returns-clause-answer
returns-clause-answer g c =
    make_answers c.args.formats.now c.args.input.now c.args.chain.now (g.O.Outside.files c.args.outside.now) c.in_ok-formats.formats.items (input_view c.in_ok-input.input) c.make.result
    c.in_ok-formats.ensures.plain
    (input_before c.args.input.now (Ok (input_view c.in_ok-input.input)) _ _ c.in_ok-formats.ensures.files c.in_ok-input.ensures.plain)
    (rw (sym c.deref.ensures.value) c.make.ensures.plain)
    c.make.ensures.refusal

pub returns-clause-refusal : goal.returns-clause-refusal
returns-clause-refusal g c =
    IfErr-weaker c.make.result _ _
    (λ s h. inner_refusal (reads Formats c.args.formats.now ∷ reads Input c.args.input.now ∷ []) (g.O.Outside.faults c.args.outside.now) (g.O.Outside.faults c.read_input.new.outside) s h)
    c.make.ensures.refusal
