use Rattle.us_gen_queries.proofs.Chain.{selected_are_given}
use Rattle.us_gen_queries.proofs.laws.selected_are_given.Goals as goal

pub returns : goal.returns
returns c = selected_are_given
