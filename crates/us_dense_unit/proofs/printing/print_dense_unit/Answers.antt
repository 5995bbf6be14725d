use Rattle.std.proofs.Common.{◌++◌, ap, ◌∙◌, rules}
use Rattle.us_code.specs.Plain.{program_tree}
use Rattle.us_dense_unit.specs.Dense.{dense_line}
use Rattle.us_dense_unit.proofs.Back.{printed_back}
use Rattle.us_dense_unit.proofs.printing.print_dense_unit.Goals as goal

pub returns-clause-reads : goal.returns-clause-reads
returns-clause-reads c =
    printed_back _ (record { rows = c.args.rows; cols = c.args.cols; program = program_tree c.args.program.now })
    (c.in_ok-extend_from_slice.ensures.items
    ∙ ap (λ a. a ++ c.deref.result.now) c.in_ok-text.ensures
    ∙ ap (λ b. dense_line c.args.rows c.args.cols ++ b) (c.deref.ensures.value ∙ c.in_ok-code.ensures))
    (search rules) (search rules) c.requires.limits c.program_is_named.ensures
