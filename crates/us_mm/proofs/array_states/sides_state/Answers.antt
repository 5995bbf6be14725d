use Rattle.std.proofs.Common.{sym, ◌∙◌}
use Rattle.us_mm.proofs.ByStateLemmas.{sides_by_states}
use Rattle.us_mm.proofs.array_states.sides_state.Goals as goal

pub returns-in-Some-clause-value : goal.returns-in-Some-clause-value
returns-in-Some-clause-value c = λ rest h.
    c.side_options.ensures.value
    ∙ sym (sides_by_states c.args.number _ c.in-Some.rows c.in-Some.cols c.size.result c.size-in-Some.result (c.in-Some.ensures rest h) c.size.ensures c.size-in-Some.ensures)
