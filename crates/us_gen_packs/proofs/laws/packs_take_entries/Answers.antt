use Rattle.us_gen_packs.proofs.Filling.{packs_take_entries}
use Rattle.us_gen_packs.proofs.laws.packs_take_entries.Goals as goal

pub returns : goal.returns
returns c = packs_take_entries
