use Rattle.us_gen_build.proofs.Ordering.{orders_sort}
use Rattle.us_gen_build.proofs.laws.orders_sort.Goals as goal

pub returns : goal.returns
returns c = orders_sort
