use Rattle.us_gen_query.proofs.SelectsRun.{copies_chosen}
use Rattle.us_gen_query.proofs.laws.copies_chosen.Goals as goal

pub returns : goal.returns
returns c = copies_chosen
