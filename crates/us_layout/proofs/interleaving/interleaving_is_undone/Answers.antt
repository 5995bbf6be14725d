use Rattle.us_layout.proofs.Interleaved.{interleaving-is-undone}
use Rattle.us_layout.proofs.interleaving.interleaving_is_undone.Goals as goal

pub returns : goal.returns
returns c = interleaving-is-undone
