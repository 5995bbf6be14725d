use Rattle.us_mm_lines.proofs.WordStateLemmas.{value_none, value_some}
use Rattle.us_mm_lines.proofs.word_state.WordState.value.Goals as goal

pub returns-in-None : goal.returns-in-None
returns-in-None c = λ w h. value_none w (c.in-None.ensures w h)

pub returns-in-Some : goal.returns-in-Some
returns-in-Some c = λ w h. value_some c.args.self.now w c.in-Some.number h (c.in-Some.ensures w h)
