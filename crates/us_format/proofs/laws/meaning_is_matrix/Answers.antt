use Rattle.us_format.proofs.Lawful.{meaning-is-matrix}
use Rattle.us_format.proofs.laws.meaning_is_matrix.Goals as goal

pub returns : goal.returns
returns c = meaning-is-matrix
