use Rattle.us_gen_queries.proofs.Countable.{heads_select}
use Rattle.us_gen_queries.proofs.laws.heads_select.Goals as goal

pub returns : goal.returns
returns c = heads_select
