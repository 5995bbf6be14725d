use Rattle.us_gen.proofs.NestsFit.{nests_typed}
use Rattle.us_gen.proofs.laws.nests_typed.Goals as goal

pub returns : goal.returns
returns c = nests_typed
