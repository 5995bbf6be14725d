use Rattle.us_format_loops.proofs.Lawful.{entries-are-recovered}
use Rattle.us_format_loops.proofs.laws.entries_are_recovered.Goals as goal

pub returns : goal.returns
returns c = entries-are-recovered
