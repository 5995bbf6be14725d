use Rattle.us_inputs.proofs.PiecesLemmas.{held_fits, held_above}
use Rattle.us_inputs.proofs.matrix_file.held.Goals as goal

pub returns-then-entries-gt-MOST_ENTRIES-clause-plain : goal.returns-then-entries-gt-MOST_ENTRIES-clause-plain
returns-then-entries-gt-MOST_ENTRIES-clause-plain c = held_above c.args.matrix c.entries.result.now c.entries.ensures.value c.if-entries-gt-MOST_ENTRIES.true

pub returns-clause-plain : goal.returns-clause-plain
returns-clause-plain c = held_fits c.args.matrix c.entries.result.now c.entries.ensures.value c.if-entries-gt-MOST_ENTRIES.false
