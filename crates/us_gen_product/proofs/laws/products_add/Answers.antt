use Rattle.us_gen_product.proofs.ProductRuns.{products_add}
use Rattle.us_gen_product.proofs.laws.products_add.Goals as goal

pub returns : goal.returns
returns c = products_add
