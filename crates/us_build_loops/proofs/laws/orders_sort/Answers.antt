use Rattle.us_build_loops.proofs.Orders.{orders-sort}
use Rattle.us_build_loops.proofs.laws.orders_sort.Goals as goal

pub returns : goal.returns
returns c = orders-sort
