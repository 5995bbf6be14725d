use Rattle.us_code_laws.proofs.Orders.{ordered_by_keys}
use Rattle.us_code_laws.proofs.laws.ordered_by_keys.Goals as goal

pub returns : goal.returns
returns c = ordered_by_keys
