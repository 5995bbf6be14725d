use Rattle.std.proofs.Common.{◌∷◌, [], ◌∙◌, ap, refl, subst}
use Rattle.us_status.specs.declared.status.Slot.TheVariants.{Formats, Output}
use Rattle.us_top.specs.Tasks.{compile_task}
use Rattle.us_top.proofs.CompileLemmas.{unit_means}
use Rattle.us_status.specs.Uses.{reads, stores}
use Rattle.us_top.specs.Compiling.{IsUnitOfPair}
use Rattle.us_status.specs.Stands.{output_of}
use Rattle.us_status.specs.Runs.{told}
use Rattle.us_top.specs.Views.{shape_view}
use Rattle.us_status.proofs.RunLemmas.{read_refused, memory_run, done_with, nothing_but, same_store}
use Rattle.us_top.proofs.compile.compile.Goals as goal

pub returns-in-Err : goal.returns-in-Err
returns-in-Err g c =
    read_refused (compile_task c.args.formats.now (shape_view c.args.shape) c.args.source.now c.args.target.now c.args.output.now)
    (told (g.O.Outside.files c.args.outside.now) (g.O.Outside.printed c.args.outside.now) (g.O.Outside.faults c.args.outside.now))
    (told (g.O.Outside.files c.read_pair.new.outside) (g.O.Outside.printed c.read_pair.new.outside) (g.O.Outside.faults c.read_pair.new.outside))
    Formats c.args.formats.now (stores Output c.args.output.now ∷ []) c.in-Err.status refl (λ fs. refl) c.in-Err.ensures.plain c.in-Err.ensures.refusal c.in-Err.ensures.files c.in-Err.ensures.printed

pub returns-in_default : goal.returns-in_default
returns-in_default g c =
    memory_run (compile_task c.args.formats.now (shape_view c.args.shape) c.args.source.now c.args.target.now c.args.output.now)
    (told (g.O.Outside.files c.args.outside.now) (g.O.Outside.printed c.args.outside.now) (g.O.Outside.faults c.args.outside.now))
    (told (g.O.Outside.files c.read_pair.new.outside) (g.O.Outside.printed c.read_pair.new.outside) (g.O.Outside.faults c.read_pair.new.outside))
    c.in-Ok.ensures.files c.in-Ok.ensures.printed

pub returns : goal.returns
returns g c =
    let output = output_of c.args.output.now c.in-Ok-unit_of.unit.items in
    let unit = subst (λ ds. IsUnitOfPair ds (shape_view c.args.shape) c.in-Ok-unit_of.unit.items) c.deref.ensures.value c.in-Ok-unit_of.ensures in
    done_with (compile_task c.args.formats.now (shape_view c.args.shape) c.args.source.now c.args.target.now c.args.output.now) c.in-Ok.pair.items _ (nothing_but output) (reads Formats c.args.formats.now ∷ [])
    (told (g.O.Outside.files c.args.outside.now) (g.O.Outside.printed c.args.outside.now) (g.O.Outside.faults c.args.outside.now))
    (told (g.O.Outside.files c.read_pair.new.outside) (g.O.Outside.printed c.read_pair.new.outside) (g.O.Outside.faults c.read_pair.new.outside))
    (told (g.O.Outside.files c.finish.new.outside) (g.O.Outside.printed c.finish.new.outside) (g.O.Outside.faults c.finish.new.outside))
    c.finish.result
    (same_store _ _ (c.output.ensures ∙ ap (output_of c.args.output.now) c.deref-2.ensures.value))
    c.in-Ok.ensures.plain
    (c.in-Ok-unit_of.unit.items, refl, unit)
    (unit_means c.args.formats.now (shape_view c.args.shape) c.args.source.now c.args.target.now c.args.output.now (g.O.Outside.files c.args.outside.now) c.in-Ok.pair.items
    c.in-Ok-unit_of.unit.items c.in-Ok.ensures.plain unit)
    refl
    (λ e. refl)
    c.in-Ok.ensures.later
    c.in-Ok.ensures.files
    c.in-Ok.ensures.printed
    (record { answer = c.finish.ensures.answer; cause = c.finish.ensures.cause; stands = c.finish.ensures.stands; printed = c.finish.ensures.printed })
