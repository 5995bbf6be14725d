use Rattle.std.proofs.Common.{All, FitsSigned, ℤ, List, subst}
use Rattle.std.specs.Int.{w64}
use Rattle.us_products.proofs.MultiplyLemmas.{grid_is}
use Rattle.us_products.proofs.multiplying.written.Goals as goal

pub returns-in-Ok-clause-grid : goal.returns-in-Ok-clause-grid
returns-in-Ok-clause-grid c =
    grid_is c.args.dense.now c.requires.rows c.requires.cols c.requires.few c.cells.ensures.count
    (subst (λ (cells : List ℤ). All (FitsSigned w64) cells) c.cells.ensures.value c.cells_fit.ensures)
