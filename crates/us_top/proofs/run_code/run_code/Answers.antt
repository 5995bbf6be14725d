use Rattle.std.proofs.Common.{◌∷◌, [], ◌∙◌, ap, refl, sym}
use Rattle.std.proofs.lemmas.Bool.{false≢true}
use Rattle.us_status.specs.declared.status.Slot.TheVariants.{Code, Input, Output}
use Rattle.us_top.specs.Tasks.{run_task}
use Rattle.us_status.specs.Uses.{reads, stores, print_use}
use Rattle.us_status.specs.Stands.{output_of}
use Rattle.us_status.specs.Runs.{told}
use Rattle.us_top.specs.Views.{made_view}
use Rattle.us_status.proofs.RunLemmas.{done_with, none_meant, refused_run, same_outcome, with_print}
use Rattle.us_top.proofs.run_code.run_code.Goals as goal

pub returns-in-Ok : goal.returns-in-Ok
returns-in-Ok g c =
    done_with (run_task c.args.code.now c.args.input.now c.args.output.now c.args.budget) (made_view c.in-Ok.made) _
    (with_print (output_of c.args.output.now c.in-Ok.made.bytes.items) c.in-Ok.made.lines.items)
    (reads Code c.args.code.now ∷ reads Input c.args.input.now ∷ [])
    (told (g.O.Outside.files c.args.outside.now) (g.O.Outside.printed c.args.outside.now) (g.O.Outside.faults c.args.outside.now))
    (told (g.O.Outside.files c.prepare.new.outside) (g.O.Outside.printed c.prepare.new.outside) (g.O.Outside.faults c.prepare.new.outside))
    (told (g.O.Outside.files c.finish.new.outside) (g.O.Outside.printed c.finish.new.outside) (g.O.Outside.faults c.finish.new.outside))
    c.finish.result
    (same_outcome _ _ _ _ (c.output.ensures ∙ ap (output_of c.args.output.now) c.deref.ensures.value) c.deref-in-Ok.ensures.value)
    c.in-Ok.ensures.plain
    refl
    (none_meant (g.O.Outside.files c.args.outside.now))
    refl
    (λ e. absurd (false≢true (sym e)))
    c.in-Ok.ensures.later
    c.in-Ok.ensures.files
    c.in-Ok.ensures.printed
    (record { answer = c.finish.ensures.answer; cause = c.finish.ensures.cause; stands = c.finish.ensures.stands; printed = c.finish.ensures.printed })

pub returns-in-Err : goal.returns-in-Err
returns-in-Err g c =
    refused_run (run_task c.args.code.now c.args.input.now c.args.output.now c.args.budget)
    (told (g.O.Outside.files c.args.outside.now) (g.O.Outside.printed c.args.outside.now) (g.O.Outside.faults c.args.outside.now))
    (told (g.O.Outside.files c.prepare.new.outside) (g.O.Outside.printed c.prepare.new.outside) (g.O.Outside.faults c.prepare.new.outside))
    (reads Code c.args.code.now ∷ reads Input c.args.input.now ∷ [])
    (stores Output c.args.output.now ∷ print_use ∷ [])
    c.in-Err.status
    refl
    c.in-Err.ensures.answer
    c.in-Err.ensures.refusal
    c.in-Err.ensures.files
    c.in-Err.ensures.printed
