use Rattle.us_gen_product.proofs.ProductFits.{product_is_typed}
use Rattle.us_gen_product.proofs.laws.product_is_typed.Goals as goal

pub returns : goal.returns
returns c = product_is_typed
