use Rattle.std.proofs.Common.{sym, ◌∙◌}
use Rattle.us_mm.proofs.ByStateLemmas.{value_by_state}
use Rattle.us_mm.proofs.array_states.value_state.Goals as goal

pub returns-in-Some-clause-value : goal.returns-in-Some-clause-value
returns-in-Some-clause-value c = λ rest h.
    c.value_option.ensures.value ∙ sym (value_by_state c.args.number _ c.in-Some.word c.value.result (c.in-Some.ensures rest h) c.value.ensures)
