use Rattle.us_gen_query.proofs.ReordersFit.{reorder_typed}
use Rattle.us_gen_query.proofs.laws.reorder_typed.Goals as goal

pub returns : goal.returns
returns c = reorder_typed
