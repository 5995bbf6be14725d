use Rattle.std.proofs.Common.{sym, ◌∙◌}
use Rattle.us_script.proofs.StepLemmas.{set_by_options}
use Rattle.us_script.proofs.reading.set_words.Goals as goal

pub returns-in-Some-Some-Some : goal.returns-in-Some-Some-Some
returns-in-Some-Some-Some c =
    let s = c.args.shape in
    let k = c.in-Some-Some-Some in
    c.set_numbers.ensures.value
    ∙ sym (set_by_options c.args.number s.rows s.cols c.args.row.now c.args.col.now c.args.value.now c.size_word-row.result c.size_word-col.result c.value_word-value.result k.row k.col k.minus k.size c.set_numbers.ensures.narrow.0 c.set_numbers.ensures.narrow.1 c.size_word-row.ensures c.size_word-col.ensures c.value_word-value.ensures k.is-0 k.is-1 k.is-2)
