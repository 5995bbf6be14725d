use Rattle.std.proofs.Common.{◌++◌, ap, ◌∙◌}
use Rattle.us_code.specs.Plain.{program_tree}
use Rattle.us_decl.specs.Views.{decl_view}
use Rattle.us_print.specs.Canon.{decl_text}
use Rattle.us_unit.proofs.Back.{printed_back}
use Rattle.us_unit.proofs.printing.print_unit.Goals as goal

pub returns-clause-reads : goal.returns-clause-reads
returns-clause-reads c =
    printed_back _ (decl_view c.args.target.now) (program_tree c.args.program.now)
    (c.in_ok-extend_from_slice.ensures.items
    ∙ ap (λ a. a ++ c.deref.result.now) c.in_ok-text.ensures
    ∙ ap (λ b. decl_text (decl_view c.args.target.now) ++ b) (c.deref.ensures.value ∙ c.in_ok-code.ensures))
    c.requires.valid c.requires.limits c.program_is_named.ensures
