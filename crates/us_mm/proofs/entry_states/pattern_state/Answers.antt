use Rattle.std.proofs.Common.{sym, ◌∙◌}
use Rattle.us_mm.proofs.ByStateLemmas.{pattern_by_states}
use Rattle.us_mm.proofs.entry_states.pattern_state.Goals as goal

pub returns-in-Some-clause-value : goal.returns-in-Some-clause-value
returns-in-Some-clause-value c = λ rest h.
    c.pattern_options.ensures.value
    ∙ sym (pattern_by_states c.args.symmetry c.args.number c.args.shape.rows c.args.shape.cols _ c.in-Some.row c.in-Some.col c.size.result c.size-in-Some.result c.requires.rows c.requires.cols
    (c.in-Some.ensures rest h) c.size.ensures c.size-in-Some.ensures)
