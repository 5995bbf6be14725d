use Rattle.us_gen_build.proofs.LevelsRun.{levels_take_entries}
use Rattle.us_gen_build.proofs.laws.levels_take_entries.Goals as goal

pub returns : goal.returns
returns c = levels_take_entries
