use Rattle.us_gen_packs.proofs.Making.{pack_makes_typed}
use Rattle.us_gen_packs.proofs.laws.pack_makes_typed.Goals as goal

pub returns : goal.returns
returns c = pack_makes_typed
