use Rattle.us_format_loops.proofs.Split.{levels-split}
use Rattle.us_format_loops.proofs.laws.levels_split_at_the_last_node_level.Goals as goal

pub returns : goal.returns
returns c = levels-split
