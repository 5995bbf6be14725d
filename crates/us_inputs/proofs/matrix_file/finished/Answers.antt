use Rattle.us_inputs.specs.Views.{input_of}
use Rattle.us_inputs.proofs.PiecesLemmas.{gives_matrix, gives_fault}
use Rattle.us_inputs.proofs.matrix_file.finished.Goals as goal

pub returns-in-Ok-clause-plain : goal.returns-in-Ok-clause-plain
returns-in-Ok-clause-plain c bytes h = gives_matrix c.args.slot bytes c.args.reader c.in-Ok.matrix (input_of c.held.result) c.in-Ok.ensures.value c.in-Ok.ensures.out c.held.ensures.plain h

pub returns-in-Err-clause-plain : goal.returns-in-Err-clause-plain
returns-in-Err-clause-plain c bytes h = gives_fault c.args.slot bytes c.args.reader c.in-Err.fault c.refusal.result c.in-Err.ensures.value c.in-Err.ensures.out c.refusal.ensures h
