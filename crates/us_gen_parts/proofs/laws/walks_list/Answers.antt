use Rattle.us_gen_parts.proofs.Listable.{walks-list}
use Rattle.us_gen_parts.proofs.laws.walks_list.Goals as goal

pub returns : goal.returns
returns c = walks-list
