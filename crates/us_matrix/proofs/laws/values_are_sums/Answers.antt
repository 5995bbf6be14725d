use Rattle.us_matrix.proofs.EntriesOf.{matrix_of-IsMatrix, entries_of-values}
use Rattle.us_matrix.proofs.laws.values_are_sums.Goals as goal

pub returns : goal.returns
returns c = λ rows cols ts r s inside. (matrix_of-IsMatrix rows cols ts r s inside, entries_of-values rows cols ts s.high inside)
