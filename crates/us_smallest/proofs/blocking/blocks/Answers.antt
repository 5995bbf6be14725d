use Rattle.std.proofs.Common.{◌∷◌, [], refl, sym}
use Rattle.std.proofs.lemmas.Bool.{false≢true}
use Rattle.us_print.specs.Canon.{decl_text}
use Rattle.us_advise.specs.Blocks.{block}
use Rattle.us_status.specs.declared.status.Slot.TheVariants.{Input, Output}
use Rattle.us_status.specs.Runs.{told}
use Rattle.us_status.specs.Stands.{output_of}
use Rattle.us_status.specs.Uses.{print_use, reads, stores}
use Rattle.us_status.proofs.RunLemmas.{done_with, read_refused, refused_run, with_print}
use Rattle.us_inputs.specs.Steps.{map_of}
use Rattle.us_inputs.specs.Views.{input_view}
use Rattle.us_inputs.proofs.InputLemmas.{inner_refusal}
use Rattle.us_smallest.specs.Blocking.{blocks_task, blocks_text}
use Rattle.us_smallest.proofs.CommandLemmas.{best_answer, best_means, best_steps, best_stored, input_end}
use Rattle.us_smallest.proofs.blocking.blocks.Goals as goal

pub returns-in-Err : goal.returns-in-Err
returns-in-Err g c =
    read_refused (blocks_task c.args.input.now c.args.output.now)
    (told (g.O.Outside.files c.args.outside.now) (g.O.Outside.printed c.args.outside.now) (g.O.Outside.faults c.args.outside.now))
    (told (g.O.Outside.files c.read_input.new.outside) (g.O.Outside.printed c.read_input.new.outside) (g.O.Outside.faults c.read_input.new.outside))
    Input c.args.input.now
    (stores Output c.args.output.now ∷ print_use ∷ [])
    c.in-Err.status
    refl
    (λ fs. refl)
    (input_end c.args.input.now (g.O.Outside.files c.args.outside.now) c.in-Err.status c.in-Err.ensures.plain)
    c.in-Err.ensures.refusal
    c.in-Err.ensures.files
    c.in-Err.ensures.printed

pub returns-in-Ok-best_of : goal.returns-in-Ok-best_of
returns-in-Ok-best_of g c =
    let i = input_view c.in-Ok.input in
    let files = g.O.Outside.files c.args.outside.now in
    let best = c.in-Ok-best_of.ensures.best in
    let made = block best.sides.rows best.sides.cols in
    let steps = best_steps c.args.input.now files i c.matrix.result.now _ _ c.matrix.ensures best c.in-Ok.ensures.plain in
    done_with (blocks_task c.args.input.now c.args.output.now) (record { matrix = map_of i; best = best.sides }) _
    (with_print (output_of c.args.output.now (decl_text made)) (blocks_text (map_of i)))
    (reads Input c.args.input.now ∷ [])
    (told files (g.O.Outside.printed c.args.outside.now) (g.O.Outside.faults c.args.outside.now))
    (told (g.O.Outside.files c.read_input.new.outside) (g.O.Outside.printed c.read_input.new.outside) (g.O.Outside.faults c.read_input.new.outside))
    (told (g.O.Outside.files c.finish.new.outside) (g.O.Outside.printed c.finish.new.outside) (g.O.Outside.faults c.finish.new.outside))
    c.finish.result
    (best_stored c.args.output.now i c.matrix.result.now _ _ _ _ _ c.matrix.ensures best c.output.ensures c.deref.ensures.value c.deref-in-Ok-best_of.ensures.value)
    steps
    refl
    (best_means c.canonical_text_reads_back.ensures c.args.input.now c.args.output.now files i c.matrix.result.now _ _ c.matrix.ensures best steps)
    refl
    (λ e. absurd (false≢true (sym e)))
    c.in-Ok.ensures.later
    c.in-Ok.ensures.files
    c.in-Ok.ensures.printed
    (record { answer = c.finish.ensures.answer; cause = c.finish.ensures.cause; stands = c.finish.ensures.stands; printed = c.finish.ensures.printed })

pub returns : goal.returns
returns g c =
    refused_run (blocks_task c.args.input.now c.args.output.now)
    (told (g.O.Outside.files c.args.outside.now) (g.O.Outside.printed c.args.outside.now) (g.O.Outside.faults c.args.outside.now))
    (told (g.O.Outside.files c.read_input.new.outside) (g.O.Outside.printed c.read_input.new.outside) (g.O.Outside.faults c.read_input.new.outside))
    (reads Input c.args.input.now ∷ [])
    (stores Output c.args.output.now ∷ print_use ∷ [])
    c.in-Err-best_of.status
    refl
    (best_answer c.args.input.now (g.O.Outside.files c.args.outside.now) (input_view c.in-Ok.input) c.matrix.result.now c.in-Err-best_of.status c.matrix.ensures c.in-Ok.ensures.plain
    c.in-Err-best_of.ensures.large c.in-Err-best_of.ensures.refusal)
    (inner_refusal (reads Input c.args.input.now ∷ []) (g.O.Outside.faults c.args.outside.now) (g.O.Outside.faults c.read_input.new.outside) c.in-Err-best_of.status c.in-Err-best_of.ensures.refusal)
    c.in-Ok.ensures.files
    c.in-Ok.ensures.printed
