use Rattle.std.proofs.Common.{◌∷◌, [], ◌∙◌, refl, sym}
use Rattle.std.proofs.lemmas.Bool.{false≢true}
use Rattle.us_status.specs.declared.status.Slot.TheVariants.{Input}
use Rattle.us_top.specs.Info.{info_text}
use Rattle.us_top.specs.Tasks.{info_task}
use Rattle.us_status.specs.Uses.{print_use, reads}
use Rattle.us_status.specs.Runs.{told}
use Rattle.us_inputs.specs.Views.{input_view}
use Rattle.us_status.proofs.RunLemmas.{read_refused, memory_run, done_with, lines_alone, none_meant, same_lines}
use Rattle.us_top.proofs.info.info.Goals as goal

pub returns-in-Err : goal.returns-in-Err
returns-in-Err g c =
    read_refused (info_task c.args.input.now)
    (told (g.O.Outside.files c.args.outside.now) (g.O.Outside.printed c.args.outside.now) (g.O.Outside.faults c.args.outside.now))
    (told (g.O.Outside.files c.read_input.new.outside) (g.O.Outside.printed c.read_input.new.outside) (g.O.Outside.faults c.read_input.new.outside))
    Input c.args.input.now (print_use ∷ []) c.in-Err.status refl (λ fs. refl) c.in-Err.ensures.plain c.in-Err.ensures.refusal c.in-Err.ensures.files c.in-Err.ensures.printed

pub returns-in_default : goal.returns-in_default
returns-in_default g c =
    memory_run (info_task c.args.input.now)
    (told (g.O.Outside.files c.args.outside.now) (g.O.Outside.printed c.args.outside.now) (g.O.Outside.faults c.args.outside.now))
    (told (g.O.Outside.files c.read_input.new.outside) (g.O.Outside.printed c.read_input.new.outside) (g.O.Outside.faults c.read_input.new.outside))
    c.in-Ok.ensures.files c.in-Ok.ensures.printed

pub returns : goal.returns
returns g c =
    done_with (info_task c.args.input.now) (input_view c.in-Ok.input) _ (lines_alone (info_text (input_view c.in-Ok.input)))
    (reads Input c.args.input.now ∷ [])
    (told (g.O.Outside.files c.args.outside.now) (g.O.Outside.printed c.args.outside.now) (g.O.Outside.faults c.args.outside.now))
    (told (g.O.Outside.files c.read_input.new.outside) (g.O.Outside.printed c.read_input.new.outside) (g.O.Outside.faults c.read_input.new.outside))
    (told (g.O.Outside.files c.finish.new.outside) (g.O.Outside.printed c.finish.new.outside) (g.O.Outside.faults c.finish.new.outside))
    c.finish.result
    (same_lines _ _ (c.deref.ensures.value ∙ c.in-Ok-info_lines.ensures))
    c.in-Ok.ensures.plain
    refl
    (none_meant (g.O.Outside.files c.args.outside.now))
    refl
    (λ e. absurd (false≢true (sym e)))
    c.in-Ok.ensures.later
    c.in-Ok.ensures.files
    c.in-Ok.ensures.printed
    (record { answer = c.finish.ensures.answer; cause = c.finish.ensures.cause; stands = c.finish.ensures.stands; printed = c.finish.ensures.printed })
