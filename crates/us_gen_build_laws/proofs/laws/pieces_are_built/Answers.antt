use Rattle.us_gen_build_laws.proofs.Part.{pieces-built}
use Rattle.us_gen_build_laws.proofs.laws.pieces_are_built.Goals as goal

pub returns : goal.returns
returns c = pieces-built
