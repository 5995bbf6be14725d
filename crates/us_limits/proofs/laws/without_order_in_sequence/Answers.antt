use Rattle.us_limits.proofs.Orders.{without-order}
use Rattle.us_limits.proofs.laws.without_order_in_sequence.Goals as goal

pub returns : goal.returns
returns c = without-order
