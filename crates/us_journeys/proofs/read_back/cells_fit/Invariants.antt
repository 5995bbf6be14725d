use Rattle.std.proofs.Common.{ℕ, ◌<◌, FitsSigned, slice_index_or, ℤ}
use Rattle.std.specs.Int.{w64}
use Rattle.us_journeys.proofs.read_back.cells_fit.Given as goal

abbrev pub invariant-loop-cell : goal.invariant-loop-cell
invariant-loop-cell l = (k : ℕ) (d : ℤ) → k < l.cell-index → FitsSigned w64 (slice_index_or l.cells k d)
