use Rattle.us_build_loops.proofs.AllLevels.{blocks-build-pieces}
use Rattle.us_build_loops.proofs.laws.blocks_build_pieces.Goals as goal

pub returns : goal.returns
returns c = blocks-build-pieces
