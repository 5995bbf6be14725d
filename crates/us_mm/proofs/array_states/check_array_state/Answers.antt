use Rattle.std.proofs.Common.{◌∙◌}
use Rattle.us_mm.proofs.ByStateLemmas.{array_by_states}
use Rattle.us_mm.proofs.array_states.check_array_state.Goals as goal

pub returns-in-Some : goal.returns-in-Some
returns-in-Some c = λ rest h.
    let five = c.in-Some.ensures rest h in
    c.check_array_words.ensures
    ∙ array_by_states _ c.in-Some.ws.now _ _ _ _ _ _ five.0 five.1
    (record { first = c.front.ensures; second = c.front-in-Some.ensures; third = c.front-in-Some-2.ensures; fourth = c.front-in-Some-3.ensures; fifth = c.front-in-Some-4.ensures })
