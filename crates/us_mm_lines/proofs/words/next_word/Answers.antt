use Rattle.std.proofs.Common.{take, sym, ap, ◌∙◌, ◌∷◌}
use Rattle.std.proofs.lemmas.List.{take_rest}
use Rattle.us_mm_lines.specs.Words.{words}
use Rattle.us_mm_lines.proofs.WordLemmas.{words_first, no_words, word_begins}
use Rattle.us_mm_lines.proofs.words.next_word.Goals as goal

pub returns-then-is_empty : goal.returns-then-is_empty
returns-then-is_empty c = sym c.skip_blanks-rest.ensures.words ∙ no_words _ (sym c.if-is_empty.ensures)

pub returns : goal.returns
returns c =
    let rest = c.skip_blanks-rest.result.now in
    let end = c.word_end-end in
    sym c.skip_blanks-rest.ensures.words ∙ words_first rest end.result (word_begins rest end.result (sym c.if-is_empty.ensures) c.skip_blanks-rest.ensures.starts end.ensures.found) end.ensures.within end.ensures.before end.ensures.found
    ∙ ap (λ l. take end.result rest ∷ words l) (sym (take_rest rest end.result))
