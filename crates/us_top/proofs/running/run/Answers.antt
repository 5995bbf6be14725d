use Rattle.us_top.proofs.GrammarLemmas.{all_are_read}
use Rattle.us_top.proofs.running.run.Goals as goal

pub returns-in-None-clause-grammar : goal.returns-in-None-clause-grammar
returns-in-None-clause-grammar g c = all_are_read c.library_answers_mean.ensures c.answers_mean.ensures c.answers_mean-2.ensures

pub returns-in-Some-Canon-clause-grammar : goal.returns-in-Some-Canon-clause-grammar
returns-in-Some-Canon-clause-grammar g c = all_are_read c.library_answers_mean.ensures c.answers_mean.ensures c.answers_mean-2.ensures

pub returns-in-Some-Check-clause-grammar : goal.returns-in-Some-Check-clause-grammar
returns-in-Some-Check-clause-grammar g c = all_are_read c.library_answers_mean.ensures c.answers_mean.ensures c.answers_mean-2.ensures

pub returns-in-Some-Convert-clause-grammar : goal.returns-in-Some-Convert-clause-grammar
returns-in-Some-Convert-clause-grammar g c = all_are_read c.library_answers_mean.ensures c.answers_mean.ensures c.answers_mean-2.ensures

pub returns-in-Some-Run-clause-grammar : goal.returns-in-Some-Run-clause-grammar
returns-in-Some-Run-clause-grammar g c = all_are_read c.library_answers_mean.ensures c.answers_mean.ensures c.answers_mean-2.ensures

pub returns-in-Some-Info-clause-grammar : goal.returns-in-Some-Info-clause-grammar
returns-in-Some-Info-clause-grammar g c = all_are_read c.library_answers_mean.ensures c.answers_mean.ensures c.answers_mean-2.ensures

pub returns-in-Some-Compile-clause-grammar : goal.returns-in-Some-Compile-clause-grammar
returns-in-Some-Compile-clause-grammar g c = all_are_read c.library_answers_mean.ensures c.answers_mean.ensures c.answers_mean-2.ensures

pub returns-in-Some-Generate-clause-grammar : goal.returns-in-Some-Generate-clause-grammar
returns-in-Some-Generate-clause-grammar g c = all_are_read c.library_answers_mean.ensures c.answers_mean.ensures c.answers_mean-2.ensures

pub returns-in-Some-Product-clause-grammar : goal.returns-in-Some-Product-clause-grammar
returns-in-Some-Product-clause-grammar g c = all_are_read c.library_answers_mean.ensures c.answers_mean.ensures c.answers_mean-2.ensures

pub returns-in-Some-Advise-clause-grammar : goal.returns-in-Some-Advise-clause-grammar
returns-in-Some-Advise-clause-grammar g c = all_are_read c.library_answers_mean.ensures c.answers_mean.ensures c.answers_mean-2.ensures

pub returns-in-Some-Blocks-clause-grammar : goal.returns-in-Some-Blocks-clause-grammar
returns-in-Some-Blocks-clause-grammar g c = all_are_read c.library_answers_mean.ensures c.answers_mean.ensures c.answers_mean-2.ensures
