use Rattle.std.proofs.Common.{refl}
use Rattle.us_mm.proofs.PiecesLemmas.{holds_none}
use Rattle.us_mm.proofs.pieces.Pieces.new.Goals as goal

pub returns : goal.returns
returns c = λ k. holds_none _ _ refl refl k refl c.new.ensures
