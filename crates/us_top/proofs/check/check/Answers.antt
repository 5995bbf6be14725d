use Rattle.std.proofs.Common.{◌∷◌, [], ◌∙◌, map, refl, sym}
use Rattle.std.proofs.lemmas.Bool.{false≢true}
use Rattle.us_status.specs.declared.status.Slot.TheVariants.{Formats}
use Rattle.us_top.specs.Report.{report}
use Rattle.us_top.specs.Tasks.{check_task}
use Rattle.us_status.specs.Uses.{print_use, reads}
use Rattle.us_status.specs.Runs.{told}
use Rattle.us_top.specs.Views.{shape_view}
use Rattle.us_decl.specs.Views.{decl_view}
use Rattle.us_status.proofs.RunLemmas.{read_refused, memory_run, done_with, lines_alone, none_meant, same_lines}
use Rattle.us_top.proofs.check.check.Goals as goal

pub returns-in-Err : goal.returns-in-Err
returns-in-Err g c =
    read_refused (check_task c.args.formats.now (shape_view c.args.shape))
    (told (g.O.Outside.files c.args.outside.now) (g.O.Outside.printed c.args.outside.now) (g.O.Outside.faults c.args.outside.now))
    (told (g.O.Outside.files c.read_library.new.outside) (g.O.Outside.printed c.read_library.new.outside) (g.O.Outside.faults c.read_library.new.outside))
    Formats c.args.formats.now (print_use ∷ []) c.in-Err.status refl (λ fs. refl) c.in-Err.ensures.plain c.in-Err.ensures.refusal c.in-Err.ensures.files c.in-Err.ensures.printed

pub returns-in_default : goal.returns-in_default
returns-in_default g c =
    memory_run (check_task c.args.formats.now (shape_view c.args.shape))
    (told (g.O.Outside.files c.args.outside.now) (g.O.Outside.printed c.args.outside.now) (g.O.Outside.faults c.args.outside.now))
    (told (g.O.Outside.files c.read_library.new.outside) (g.O.Outside.printed c.read_library.new.outside) (g.O.Outside.faults c.read_library.new.outside))
    c.in-Ok.ensures.files c.in-Ok.ensures.printed

pub returns : goal.returns
returns g c =
    done_with (check_task c.args.formats.now (shape_view c.args.shape)) (map decl_view c.in-Ok.library) _
    (lines_alone (report (shape_view c.args.shape) (map decl_view c.in-Ok.library)))
    (reads Formats c.args.formats.now ∷ [])
    (told (g.O.Outside.files c.args.outside.now) (g.O.Outside.printed c.args.outside.now) (g.O.Outside.faults c.args.outside.now))
    (told (g.O.Outside.files c.read_library.new.outside) (g.O.Outside.printed c.read_library.new.outside) (g.O.Outside.faults c.read_library.new.outside))
    (told (g.O.Outside.files c.finish.new.outside) (g.O.Outside.printed c.finish.new.outside) (g.O.Outside.faults c.finish.new.outside))
    c.finish.result
    (same_lines _ _ (c.deref.ensures.value ∙ c.in-Ok-report.ensures))
    c.in-Ok.ensures.plain
    refl
    (none_meant (g.O.Outside.files c.args.outside.now))
    refl
    (λ e. absurd (false≢true (sym e)))
    c.in-Ok.ensures.later
    c.in-Ok.ensures.files
    c.in-Ok.ensures.printed
    (record { answer = c.finish.ensures.answer; cause = c.finish.ensures.cause; stands = c.finish.ensures.stands; printed = c.finish.ensures.printed })
