use Rattle.std.proofs.Common.{List, ◌∷◌, [], ◌∙◌, Err, refl, subst, sym}
use Rattle.std.proofs.lemmas.Bool.{false≢true}
use Rattle.us_decl.specs.Declares.{Declared}
use Rattle.us_format.specs.Program.{plain_shape}
use Rattle.us_sample.specs.Numbers.{sample_of}
use Rattle.us_status.specs.declared.status.Slot.TheVariants.{Formats}
use Rattle.us_status.specs.Answers.{IsStep}
use Rattle.us_status.specs.Uses.{print_use, reads}
use Rattle.us_status.specs.Runs.{told}
use Rattle.us_status.proofs.RunLemmas.{done_with, lines_alone, none_meant, read_refused, refused_run, same_lines}
use Rattle.us_inputs.specs.Steps.{within_limit}
use Rattle.us_inputs.proofs.InputLemmas.{inner_refusal}
use Rattle.us_generate.specs.Generating.{generate_task}
use Rattle.us_generate.proofs.GenerateLemmas.{all_sized, chain_ends, lines_answer}
use Rattle.us_generate.proofs.generating.generate.Goals as goal

pub returns-in-Err : goal.returns-in-Err
returns-in-Err g c =
    read_refused (generate_task c.args.seed (plain_shape c.args.shape) c.args.count c.args.chain.now c.args.formats.now)
    (told (g.O.Outside.files c.args.outside.now) (g.O.Outside.printed c.args.outside.now) (g.O.Outside.faults c.args.outside.now))
    (told (g.O.Outside.files c.read_chain.new.outside) (g.O.Outside.printed c.read_chain.new.outside) (g.O.Outside.faults c.read_chain.new.outside))
    Formats c.args.formats.now (print_use ∷ []) c.in-Err.status refl (λ fs. refl)
    (chain_ends (sample_of c.args.seed c.args.shape.rows c.args.shape.cols c.args.count) c.args.formats.now c.args.chain.now (g.O.Outside.files c.args.outside.now) c.in-Err.status
    c.in-Err.ensures.plain)
    c.in-Err.ensures.refusal c.in-Err.ensures.files c.in-Err.ensures.printed

pub lines_of-requires-clause-formats : goal.lines_of-requires-clause-formats
lines_of-requires-clause-formats g c = rw c.deref.ensures.value c.in-Ok.ensures.few

pub returns-in-Ok-lines_of : goal.returns-in-Ok-lines_of
returns-in-Ok-lines_of g c =
    done_with (generate_task c.args.seed (plain_shape c.args.shape) c.args.count c.args.chain.now c.args.formats.now) c.in-Ok.formats.items _ (lines_alone c.in-Ok-lines_of.lines.items)
    (reads Formats c.args.formats.now ∷ [])
    (told (g.O.Outside.files c.args.outside.now) (g.O.Outside.printed c.args.outside.now) (g.O.Outside.faults c.args.outside.now))
    (told (g.O.Outside.files c.read_chain.new.outside) (g.O.Outside.printed c.read_chain.new.outside) (g.O.Outside.faults c.read_chain.new.outside))
    (told (g.O.Outside.files c.finish.new.outside) (g.O.Outside.printed c.finish.new.outside) (g.O.Outside.faults c.finish.new.outside))
    c.finish.result
    (same_lines _ _ c.deref-in-Ok-lines_of.ensures.value)
    (all_sized (sample_of c.args.seed c.args.shape.rows c.args.shape.cols c.args.count) c.args.formats.now c.args.chain.now (g.O.Outside.files c.args.outside.now) c.in-Ok.formats.items c.in-Ok.ensures.plain
    (rw c.deref.ensures.value at c.in-Ok-lines_of.ensures.within))
    (record { lines = c.in-Ok-lines_of.lines.items; told = rw c.deref.ensures.value at c.in-Ok-lines_of.ensures.made; is = refl })
    (none_meant (g.O.Outside.files c.args.outside.now))
    refl
    (λ e. absurd (false≢true (sym e)))
    c.in-Ok.ensures.later
    c.in-Ok.ensures.files
    c.in-Ok.ensures.printed
    (record { answer = c.finish.ensures.answer; cause = c.finish.ensures.cause; stands = c.finish.ensures.stands; printed = c.finish.ensures.printed })

pub returns : goal.returns
returns g c =
    refused_run (generate_task c.args.seed (plain_shape c.args.shape) c.args.count c.args.chain.now c.args.formats.now)
    (told (g.O.Outside.files c.args.outside.now) (g.O.Outside.printed c.args.outside.now) (g.O.Outside.faults c.args.outside.now))
    (told (g.O.Outside.files c.read_chain.new.outside) (g.O.Outside.printed c.read_chain.new.outside) (g.O.Outside.faults c.read_chain.new.outside))
    (reads Formats c.args.formats.now ∷ [])
    (print_use ∷ [])
    c.in-Err-lines_of.status
    refl
    (lines_answer (sample_of c.args.seed c.args.shape.rows c.args.shape.cols c.args.count) c.args.formats.now c.args.chain.now (g.O.Outside.files c.args.outside.now) c.in-Ok.formats.items c.in-Err-lines_of.status c.in-Ok.ensures.plain
    (subst (λ (ds : List Declared). IsStep {A = Unit {0}} (within_limit (sample_of c.args.seed c.args.shape.rows c.args.shape.cols c.args.count) 1 ds) (Err c.in-Err-lines_of.status))
    c.deref.ensures.value c.in-Err-lines_of.ensures.plain)
    c.in-Err-lines_of.ensures.refusal)
    (inner_refusal (reads Formats c.args.formats.now ∷ []) (g.O.Outside.faults c.args.outside.now) (g.O.Outside.faults c.read_chain.new.outside) c.in-Err-lines_of.status
    c.in-Err-lines_of.ensures.refusal)
    c.in-Ok.ensures.files
    c.in-Ok.ensures.printed
