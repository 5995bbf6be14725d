use Rattle.us_gen_packs.proofs.Making.{packs_are_zero}
use Rattle.us_gen_packs.proofs.laws.packs_are_zero.Goals as goal

pub returns : goal.returns
returns c = packs_are_zero
