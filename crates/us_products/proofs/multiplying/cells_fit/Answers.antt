use Rattle.std.proofs.Common.{FitsSigned, slice_index_or, ℤ, pos, subst}
use Rattle.std.specs.Int.{w64}
use Rattle.std.proofs.lemmas.List.{get_or_default}
use borrow.Author.Count.{below_more}
use Rattle.us_products.proofs.multiplying.cells_fit.Goals as goal

pub loop-cell-preserved : goal.loop-cell-preserved
loop-cell-preserved c k d lt =
    below_more (λ k. (d : ℤ) → FitsSigned w64 (slice_index_or c.args.cells.now k d)) c.loop-cell.cell-index (λ k lt d. c.loop-cell.invariant k d lt)
    (λ d. subst (λ z. FitsSigned w64 z) (get_or_default c.args.cells.now c.loop-cell.cell-index (pos 0) d c.loop-cell-test.true) c.cell_fits.ensures) k lt d
