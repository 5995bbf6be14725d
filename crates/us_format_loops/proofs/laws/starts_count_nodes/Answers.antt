use Rattle.us_format_loops.proofs.Lawful.{starts-count-nodes}
use Rattle.us_format_loops.proofs.laws.starts_count_nodes.Goals as goal

pub returns : goal.returns
returns c = starts-count-nodes
