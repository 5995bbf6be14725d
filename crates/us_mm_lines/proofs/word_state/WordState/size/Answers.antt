use Rattle.us_mm_lines.proofs.WordStateLemmas.{size_minus, size_plain, test_true, test_false}
use Rattle.us_mm_lines.proofs.word_state.WordState.size.Goals as goal

pub returns-then-self-eq45 : goal.returns-then-self-eq45
returns-then-self-eq45 c = λ w h. size_minus c.args.self.now w h (test_true _ _ c.if-self-eq45.true)

pub returns : goal.returns
returns c = λ w h. size_plain c.args.self.now w c.numeral.result h (test_false _ _ c.if-self-eq45.false) (c.numeral.ensures w h)
