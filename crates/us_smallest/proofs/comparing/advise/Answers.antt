use Rattle.std.proofs.Common.{◌∷◌, [], ◌∙◌, Ok, Err, refl, ap₂, sym}
use Rattle.std.proofs.lemmas.Bool.{false≢true}
use Rattle.us_status.specs.declared.status.Slot.TheVariants.{Formats, Input}
use Rattle.us_status.specs.Runs.{told}
use Rattle.us_status.specs.Uses.{print_use, reads}
use Rattle.us_status.proofs.AnswerLemmas.{refusal_before, refusal_behind}
use Rattle.us_status.proofs.RunLemmas.{done_with, lines_alone, memory_run, none_meant, refused_run, same_lines}
use Rattle.us_inputs.specs.Steps.{map_of}
use Rattle.us_inputs.specs.Views.{input_view}
use Rattle.us_inputs.proofs.ChainedLemmas.{input_before}
use Rattle.us_smallest.specs.Comparing.{advice_text, advise_task}
use Rattle.us_smallest.proofs.CommandLemmas.{compared, formats_answer, input_answer, never_fell}
use Rattle.us_smallest.proofs.comparing.advise.Goals as goal

pub returns-in-Err : goal.returns-in-Err
returns-in-Err g c =
    refused_run (advise_task c.args.formats.now c.args.input.now c.args.chain.now)
    (told (g.O.Outside.files c.args.outside.now) (g.O.Outside.printed c.args.outside.now) (g.O.Outside.faults c.args.outside.now))
    (told (g.O.Outside.files c.read_chain.new.outside) (g.O.Outside.printed c.read_chain.new.outside) (g.O.Outside.faults c.read_chain.new.outside))
    (reads Formats c.args.formats.now ∷ [])
    (reads Input c.args.input.now ∷ print_use ∷ [])
    c.in-Err.status
    refl
    (formats_answer c.args.formats.now c.args.input.now c.args.chain.now (g.O.Outside.files c.args.outside.now) (g.O.Outside.faults c.args.outside.now) (g.O.Outside.faults c.read_chain.new.outside)
    c.in-Err.status c.in-Err.ensures.plain c.in-Err.ensures.refusal)
    c.in-Err.ensures.refusal
    c.in-Err.ensures.files
    c.in-Err.ensures.printed

pub returns-in-Err-read_input : goal.returns-in-Err-read_input
returns-in-Err-read_input g c =
    let before = g.O.Outside.faults c.args.outside.now in
    let middle = g.O.Outside.faults c.read_chain.new.outside in
    let now = g.O.Outside.faults c.read_input.new.outside in
    let status = c.in-Err-read_input.status in
    let input = reads Input c.args.input.now ∷ [] in
    refused_run (advise_task c.args.formats.now c.args.input.now c.args.chain.now)
    (told (g.O.Outside.files c.args.outside.now) (g.O.Outside.printed c.args.outside.now) before)
    (told (g.O.Outside.files c.read_input.new.outside) (g.O.Outside.printed c.read_input.new.outside) now)
    (reads Formats c.args.formats.now ∷ input)
    (print_use ∷ [])
    status
    refl
    (input_answer c.args.formats.now c.args.input.now c.args.chain.now (g.O.Outside.files c.args.outside.now) c.in-Ok.formats.items middle now status c.in-Ok.ensures.plain
    (input_before c.args.input.now (Err status) (g.O.Outside.files c.args.outside.now) (g.O.Outside.files c.read_chain.new.outside) c.in-Ok.ensures.files c.in-Err-read_input.ensures.plain)
    c.in-Err-read_input.ensures.refusal)
    (refusal_before before middle now (reads Formats c.args.formats.now ∷ input) status c.in-Ok.ensures.later
    (refusal_behind middle now (reads Formats c.args.formats.now) input status c.in-Err-read_input.ensures.refusal))
    (c.in-Err-read_input.ensures.files ∙ c.in-Ok.ensures.files)
    (c.in-Err-read_input.ensures.printed ∙ c.in-Ok.ensures.printed)

pub returns-in_default : goal.returns-in_default
returns-in_default g c =
    memory_run (advise_task c.args.formats.now c.args.input.now c.args.chain.now)
    (told (g.O.Outside.files c.args.outside.now) (g.O.Outside.printed c.args.outside.now) (g.O.Outside.faults c.args.outside.now))
    (told (g.O.Outside.files c.read_input.new.outside) (g.O.Outside.printed c.read_input.new.outside) (g.O.Outside.faults c.read_input.new.outside))
    (c.in-Ok-read_input.ensures.files ∙ c.in-Ok.ensures.files)
    (c.in-Ok-read_input.ensures.printed ∙ c.in-Ok.ensures.printed)

pub returns : goal.returns
returns g c =
    let i = input_view c.in-Ok-read_input.input in
    let files = g.O.Outside.files c.args.outside.now in
    done_with (advise_task c.args.formats.now c.args.input.now c.args.chain.now) (record { formats = c.in-Ok.formats.items; input = i }) _
    (lines_alone (advice_text (map_of i) c.in-Ok.formats.items))
    (reads Formats c.args.formats.now ∷ reads Input c.args.input.now ∷ [])
    (told files (g.O.Outside.printed c.args.outside.now) (g.O.Outside.faults c.args.outside.now))
    (told (g.O.Outside.files c.read_input.new.outside) (g.O.Outside.printed c.read_input.new.outside) (g.O.Outside.faults c.read_input.new.outside))
    (told (g.O.Outside.files c.finish.new.outside) (g.O.Outside.printed c.finish.new.outside) (g.O.Outside.faults c.finish.new.outside))
    c.finish.result
    (same_lines _ _ (c.deref-2.ensures.value ∙ c.in-Ok-advice_lines.ensures ∙ ap₂ advice_text c.matrix.ensures c.deref.ensures.value))
    (compared c.args.formats.now c.args.input.now c.args.chain.now files c.in-Ok.formats.items i c.in-Ok.ensures.plain
    (input_before c.args.input.now (Ok i) files (g.O.Outside.files c.read_chain.new.outside) c.in-Ok.ensures.files c.in-Ok-read_input.ensures.plain))
    refl
    (none_meant files)
    refl
    (λ e. absurd (false≢true (sym e)))
    (never_fell (g.O.Outside.faults c.args.outside.now) (g.O.Outside.faults c.read_chain.new.outside) (g.O.Outside.faults c.read_input.new.outside) c.in-Ok.ensures.later c.in-Ok-read_input.ensures.later)
    (c.in-Ok-read_input.ensures.files ∙ c.in-Ok.ensures.files)
    (c.in-Ok-read_input.ensures.printed ∙ c.in-Ok.ensures.printed)
    (record { answer = c.finish.ensures.answer; cause = c.finish.ensures.cause; stands = c.finish.ensures.stands; printed = c.finish.ensures.printed })
