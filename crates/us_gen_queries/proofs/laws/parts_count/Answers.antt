use Rattle.us_gen_queries.proofs.Countable.{parts_count}
use Rattle.us_gen_queries.proofs.laws.parts_count.Goals as goal

pub returns : goal.returns
returns c = parts_count
