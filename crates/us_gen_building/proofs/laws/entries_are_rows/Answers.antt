use Rattle.us_gen_building.proofs.Rows.{entries_are_rows}
use Rattle.us_gen_building.proofs.laws.entries_are_rows.Goals as goal

pub returns : goal.returns
returns c = entries_are_rows
