use Rattle.std.proofs.Common.{◌∷◌, [], ◌∙◌, ap, refl}
use Rattle.us_status.specs.declared.status.Slot.TheVariants.{Input, Output}
use Rattle.us_inputs.specs.Steps.{map_of}
use Rattle.us_top.specs.Tasks.{canon_task}
use Rattle.us_status.specs.Uses.{reads, stores}
use Rattle.us_status.specs.Runs.{told}
use Rattle.us_inputs.specs.Views.{input_view}
use Rattle.us_status.specs.Stands.{output_of}
use Rattle.us_mm.specs.Text.{text}
use Rattle.us_status.proofs.RunLemmas.{read_refused, memory_run, done_with, none_meant, nothing_but, same_store}
use Rattle.us_top.proofs.canon.canon.Goals as goal

pub returns-in-Err : goal.returns-in-Err
returns-in-Err g c =
    read_refused (canon_task c.args.input.now c.args.output.now)
    (told (g.O.Outside.files c.args.outside.now) (g.O.Outside.printed c.args.outside.now) (g.O.Outside.faults c.args.outside.now))
    (told (g.O.Outside.files c.read_input.new.outside) (g.O.Outside.printed c.read_input.new.outside) (g.O.Outside.faults c.read_input.new.outside))
    Input c.args.input.now (stores Output c.args.output.now ∷ []) c.in-Err.status refl (λ fs. refl) c.in-Err.ensures.plain c.in-Err.ensures.refusal c.in-Err.ensures.files c.in-Err.ensures.printed

pub returns-in_default : goal.returns-in_default
returns-in_default g c =
    memory_run (canon_task c.args.input.now c.args.output.now)
    (told (g.O.Outside.files c.args.outside.now) (g.O.Outside.printed c.args.outside.now) (g.O.Outside.faults c.args.outside.now))
    (told (g.O.Outside.files c.read_input.new.outside) (g.O.Outside.printed c.read_input.new.outside) (g.O.Outside.faults c.read_input.new.outside))
    c.in-Ok.ensures.files c.in-Ok.ensures.printed

pub returns : goal.returns
returns g c =
    done_with (canon_task c.args.input.now c.args.output.now) (input_view c.in-Ok.input) _
    (nothing_but (output_of c.args.output.now (text (map_of (input_view c.in-Ok.input)))))
    (reads Input c.args.input.now ∷ [])
    (told (g.O.Outside.files c.args.outside.now) (g.O.Outside.printed c.args.outside.now) (g.O.Outside.faults c.args.outside.now))
    (told (g.O.Outside.files c.read_input.new.outside) (g.O.Outside.printed c.read_input.new.outside) (g.O.Outside.faults c.read_input.new.outside))
    (told (g.O.Outside.files c.finish.new.outside) (g.O.Outside.printed c.finish.new.outside) (g.O.Outside.faults c.finish.new.outside))
    c.finish.result
    (same_store _ _ (c.output.ensures ∙ ap (output_of c.args.output.now) (c.deref.ensures.value ∙ c.in-Ok-write_coordinate.ensures ∙ ap text c.matrix.ensures)))
    c.in-Ok.ensures.plain
    refl
    (none_meant (g.O.Outside.files c.args.outside.now))
    refl
    (λ e. refl)
    c.in-Ok.ensures.later
    c.in-Ok.ensures.files
    c.in-Ok.ensures.printed
    (record { answer = c.finish.ensures.answer; cause = c.finish.ensures.cause; stands = c.finish.ensures.stands; printed = c.finish.ensures.printed })
