use Rattle.us_mm.proofs.PiecesLemmas.{rest_of}
use Rattle.us_mm.proofs.reader.CoordinateReader.state.Goals as goal

pub returns : goal.returns
returns c = λ bytes h none. rw c.state.ensures (rest_of _ c.args.self.now.pieces bytes h none)
