use Rattle.std.proofs.Common.{refl}
use Rattle.us_mm_lines.proofs.LineStateLemmas.{no_words_yet}
use Rattle.us_mm_lines.proofs.line_state.LineState.new.Goals as goal

pub returns : goal.returns
returns c = record { returned = refl; plain = no_words_yet c.new.result }
