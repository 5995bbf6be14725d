use Rattle.us_format_loops.proofs.Lawful.{entries-have-one-way}
use Rattle.us_format_loops.proofs.laws.entries_have_one_way.Goals as goal

pub returns : goal.returns
returns c = entries-have-one-way
