use Rattle.us_mm.proofs.ByStateLemmas.{sizes_by_states}
use Rattle.us_mm.proofs.entry_states.size_state.Goals as goal

pub returns-in-Some-clause-value : goal.returns-in-Some-clause-value
returns-in-Some-clause-value c = λ rest h.
    rw (sizes_by_states c.args.form c.args.number _ c.in-Some.rows c.in-Some.cols c.in-Some.count c.size.result c.size-in-Some.result c.size-in-Some-2.result (c.in-Some.ensures rest h) c.size.ensures c.size-in-Some.ensures c.size-in-Some-2.ensures)
    c.size_options.ensures.value
