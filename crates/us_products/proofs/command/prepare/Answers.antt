use Rattle.std.proofs.Common.{◌∷◌, [], ◌∙◌, Ok, Err, sym}
use Rattle.std.proofs.lemmas.Option.{IfSome_then}
use Rattle.std.proofs.lemmas.Result.{IfErr-weaker, err_from_is_err_and}
use Rattle.us_status.specs.declared.status.Slot.TheVariants.{Formats, Input, Operand}
use Rattle.us_status.specs.Uses.{reads}
use Rattle.us_status.proofs.AnswerLemmas.{both, refusal_before, refusal_behind, refusal_in_front}
use Rattle.us_inputs.specs.Views.{input_view}
use Rattle.us_inputs.proofs.ChainedLemmas.{input_before}
use Rattle.us_inputs.proofs.InputLemmas.{inner_refusal}
use Rattle.us_products.proofs.FactorLemmas.{all_made, all_three, formats_answer, input_answer, made_answers, operand_answer, operand_before}
use Rattle.us_products.proofs.command.prepare.Goals as goal

pub returns-in_err-formats-clause-answer : goal.returns-in_err-formats-clause-answer
returns-in_err-formats-clause-answer g c =
    let p = err_from_is_err_and c.from_residual.result c.from_residual.ensures.1 in
    rw (p.1, p.2)
    (IfSome_then (g.O.Outside.files c.args.outside.now) c.in_err-formats.ensures.plain
    (λ fs h. formats_answer c.args.vector c.args.formats.now c.args.input.now c.args.chain.now c.args.operand.now fs (g.O.Outside.faults c.args.outside.now) (g.O.Outside.faults c.read_chain.new.outside) c.in_err-formats.field-0.0 h c.in_err-formats.ensures.refusal))

pub returns-in_err-formats-clause-refusal : goal.returns-in_err-formats-clause-refusal
returns-in_err-formats-clause-refusal g c =
    let p = err_from_is_err_and c.from_residual.result c.from_residual.ensures.1 in
    rw (p.1, p.2)
    (refusal_in_front (g.O.Outside.faults c.args.outside.now) (g.O.Outside.faults c.read_chain.new.outside) (reads Formats c.args.formats.now ∷ []) (reads Input c.args.input.now ∷ reads Operand c.args.operand.now ∷ [])
    c.in_err-formats.field-0.0
    c.in_err-formats.ensures.refusal)

pub returns-in_err-input-clause-answer : goal.returns-in_err-input-clause-answer
returns-in_err-input-clause-answer g c =
    let p = err_from_is_err_and c.from_residual-in_err-input.result c.from_residual-in_err-input.ensures.1 in
    rw (p.1, p.2)
    (both (g.O.Outside.files c.args.outside.now) c.in_ok-formats.ensures.plain (input_before c.args.input.now (Err c.in_err-input.field-0.0) _ _ c.in_ok-formats.ensures.files c.in_err-input.ensures.plain)
    (λ fs e h.
    input_answer c.args.vector c.args.formats.now c.args.input.now c.args.chain.now c.args.operand.now fs c.in_ok-formats.formats.items (g.O.Outside.faults c.read_chain.new.outside) (g.O.Outside.faults c.read_input.new.outside)
    c.in_err-input.field-0.0 e h c.in_err-input.ensures.refusal))

pub returns-in_err-input-clause-refusal : goal.returns-in_err-input-clause-refusal
returns-in_err-input-clause-refusal g c =
    let p = err_from_is_err_and c.from_residual-in_err-input.result c.from_residual-in_err-input.ensures.1 in
    let before = (g.O.Outside.faults c.args.outside.now) in
    let middle = (g.O.Outside.faults c.read_chain.new.outside) in
    let now = (g.O.Outside.faults c.read_input.new.outside) in
    let input = reads Input c.args.input.now ∷ [] in
    let operand = reads Operand c.args.operand.now ∷ [] in
    rw (p.1, p.2)
    (refusal_before before middle now (reads Formats c.args.formats.now ∷ reads Input c.args.input.now ∷ operand) c.in_err-input.field-0.0 c.in_ok-formats.ensures.later
    (refusal_behind middle now (reads Formats c.args.formats.now) (reads Input c.args.input.now ∷ operand) c.in_err-input.field-0.0
    (refusal_in_front middle now input operand c.in_err-input.field-0.0 c.in_err-input.ensures.refusal)))

pub returns-in_err-x-clause-answer : goal.returns-in_err-x-clause-answer
returns-in_err-x-clause-answer g c =
    let p = err_from_is_err_and c.from_residual-in_err-x.result c.from_residual-in_err-x.ensures.1 in
    rw (p.1, p.2)
    (all_three (g.O.Outside.files c.args.outside.now) c.in_ok-formats.ensures.plain (input_before c.args.input.now (Ok (input_view c.in_ok-input.input)) _ _ c.in_ok-formats.ensures.files c.in_ok-input.ensures.plain)
    (operand_before c.args.operand.now (Err c.in_err-x.field-0.0) _ _ (c.in_ok-input.ensures.files ∙ c.in_ok-formats.ensures.files) c.in_err-x.ensures.plain)
    (λ fs e f h.
    operand_answer c.args.vector c.args.formats.now c.args.input.now c.args.chain.now c.args.operand.now fs c.in_ok-formats.formats.items (input_view c.in_ok-input.input) (g.O.Outside.faults c.read_input.new.outside) (g.O.Outside.faults c.read_operand.new.outside)
    c.in_err-x.field-0.0 e f h c.in_err-x.ensures.refusal))

pub returns-in_err-x-clause-refusal : goal.returns-in_err-x-clause-refusal
returns-in_err-x-clause-refusal g c =
    let p = err_from_is_err_and c.from_residual-in_err-x.result c.from_residual-in_err-x.ensures.1 in
    let before = (g.O.Outside.faults c.args.outside.now) in
    let first = (g.O.Outside.faults c.read_chain.new.outside) in
    let second = (g.O.Outside.faults c.read_input.new.outside) in
    let now = (g.O.Outside.faults c.read_operand.new.outside) in
    let operand = reads Operand c.args.operand.now ∷ [] in
    let both_reads = reads Input c.args.input.now ∷ operand in
    rw (p.1, p.2)
    (refusal_before before first now (reads Formats c.args.formats.now ∷ both_reads) c.in_err-x.field-0.0 c.in_ok-formats.ensures.later
    (refusal_before first second now (reads Formats c.args.formats.now ∷ both_reads) c.in_err-x.field-0.0 c.in_ok-input.ensures.later
    (refusal_behind second now (reads Formats c.args.formats.now) both_reads c.in_err-x.field-0.0
    (refusal_behind second now (reads Input c.args.input.now) operand c.in_err-x.field-0.0 c.in_err-x.ensures.refusal))))

pub multiply_input-requires-clause-formats : goal.multiply_input-requires-clause-formats
multiply_input-requires-clause-formats g c = rw c.deref.ensures.value c.in_ok-formats.ensures.few

pub returns-clause-made : goal.returns-clause-made
returns-clause-made g c =
    all_made c.args.vector c.args.formats.now c.args.input.now c.args.chain.now c.args.operand.now c.args.listed (g.O.Outside.files c.args.outside.now) c.in_ok-formats.formats.items (input_view c.in_ok-input.input) c.in_ok-x.x c.multiply_input.result
    c.in_ok-formats.ensures.plain
    (input_before c.args.input.now (Ok (input_view c.in_ok-input.input)) _ _ c.in_ok-formats.ensures.files c.in_ok-input.ensures.plain)
    (operand_before c.args.operand.now (Ok c.in_ok-x.x) _ _ (c.in_ok-input.ensures.files ∙ c.in_ok-formats.ensures.files) c.in_ok-x.ensures.plain)
    (rw (sym c.deref.ensures.value) c.multiply_input.ensures.within)
    (rw (sym c.deref.ensures.value) c.multiply_input.ensures.made)

pub returns-clause-answer : goal.returns-clause-answer
returns-clause-answer g c =
    made_answers c.args.vector c.args.formats.now c.args.input.now c.args.chain.now c.args.operand.now (g.O.Outside.files c.args.outside.now) c.in_ok-formats.formats.items (input_view c.in_ok-input.input) c.in_ok-x.x c.multiply_input.result
    c.in_ok-formats.ensures.plain
    (input_before c.args.input.now (Ok (input_view c.in_ok-input.input)) _ _ c.in_ok-formats.ensures.files c.in_ok-input.ensures.plain)
    (operand_before c.args.operand.now (Ok c.in_ok-x.x) _ _ (c.in_ok-input.ensures.files ∙ c.in_ok-formats.ensures.files) c.in_ok-x.ensures.plain)
    (rw (sym c.deref.ensures.value) c.multiply_input.ensures.plain)
    c.multiply_input.ensures.refusal

pub returns-clause-refusal : goal.returns-clause-refusal
returns-clause-refusal g c =
    IfErr-weaker c.multiply_input.result _ _
    (λ s h. inner_refusal (reads Formats c.args.formats.now ∷ reads Input c.args.input.now ∷ reads Operand c.args.operand.now ∷ []) (g.O.Outside.faults c.args.outside.now) (g.O.Outside.faults c.read_operand.new.outside) s h)
    c.multiply_input.ensures.refusal
