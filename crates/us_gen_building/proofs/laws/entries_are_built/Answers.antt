use Rattle.us_gen_building.proofs.Rows.{entries_are_built}
use Rattle.us_gen_building.proofs.laws.entries_are_built.Goals as goal

pub returns : goal.returns
returns c = entries_are_built
