use Rattle.us_query_loops.proofs.Sorting.{orders-sort}
use Rattle.us_query_loops.proofs.laws.orders_sort.Goals as goal

pub returns : goal.returns
returns c = orders-sort
