use Rattle.std.proofs.Common.{sym, ap, ◌∙◌}
use Rattle.std.proofs.lemmas.List.{take_rest, drop_more}
use Rattle.us_mm_lines.specs.Words.{words}
use Rattle.us_mm_lines.proofs.WordLemmas.{words_blank}
use Rattle.us_mm_lines.proofs.words.skip_blanks.Goals as goal

pub loop-rest-preserved : goal.loop-rest-preserved
loop-rest-preserved c =
    let whole = drop_more c.loop-rest.rest.now 0 0 c.in-len1-up.len_at_least in
    ap words (take_rest c.loop-rest.rest.now 1) ∙ sym (words_blank _ _ (sym c.if-not-is_blank.ensures)) ∙ ap words (sym whole) ∙ c.loop-rest.invariant
