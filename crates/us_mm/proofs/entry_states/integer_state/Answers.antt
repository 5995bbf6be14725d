use Rattle.std.proofs.Common.{sym, ◌∙◌}
use Rattle.us_mm.proofs.ByStateLemmas.{integer_by_states}
use Rattle.us_mm.proofs.entry_states.integer_state.Goals as goal

pub returns-in-Some-clause-value : goal.returns-in-Some-clause-value
returns-in-Some-clause-value c = λ rest h.
    c.integer_options.ensures.value
    ∙ sym (integer_by_states c.args.symmetry c.args.number c.args.shape.rows c.args.shape.cols _ c.in-Some.row c.in-Some.col c.in-Some.value c.size.result c.size-in-Some.result c.value.result c.requires.rows c.requires.cols
    (c.in-Some.ensures rest h) c.size.ensures c.size-in-Some.ensures c.value.ensures)
