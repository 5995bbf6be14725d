use Rattle.std.proofs.lemmas.Result.{err_from_is_err_and}
use Rattle.us_parse.specs.ReadsQueries.{word_of}
use Rattle.us_parse.proofs.Asking.{single_no_word, single_fails, single_goes}
use Rattle.us_parse.proofs.reading.Reader.single.Goals as goal

pub returns-in_err-word : goal.returns-in_err-word
returns-in_err-word c =
    let p = err_from_is_err_and c.from_residual-in_err-word.result c.from_residual-in_err-word.ensures.1 in
    rw (p.1, p.2) (single_no_word _ _ _ c.in_err-word.field-0.0 c.in_ok-expect.ensures.ok c.in_err-word.ensures.err)

pub returns-in_err-argument : goal.returns-in_err-argument
returns-in_err-argument c =
    let p = err_from_is_err_and c.from_residual-in_err-argument.result c.from_residual-in_err-argument.ensures.1 in
    rw (p.1, p.2) (single_fails _ _ _ (word_of c.in_ok-word.word) _ c.in_err-argument.field-0.0 c.in_ok-expect.ensures.ok c.in_ok-word.ensures.ok c.in_err-argument.ensures)

pub returns : goal.returns
returns c = single_goes _ _ _ _ (word_of c.in_ok-word.word) _ _ _ _ _ c.in_ok-expect.ensures.ok c.in_ok-word.ensures.ok c.in_ok-argument.ensures c.query_of.ensures
