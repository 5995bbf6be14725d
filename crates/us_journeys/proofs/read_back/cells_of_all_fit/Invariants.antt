use Rattle.std.proofs.Common.{ℕ, ◌<◌, ◌^◌, All, FitsSigned, slice_index_or, length, List, ℤ}
use Rattle.std.specs.Int.{w64}
use Rattle.us_journeys.proofs.read_back.cells_of_all_fit.Given as goal

abbrev pub invariant-loop-b : goal.invariant-loop-b
invariant-loop-b l = (k : ℕ) (d : List ℤ) → k < l.b → All (FitsSigned w64) (slice_index_or l.buffers k d) × (length (slice_index_or l.buffers k d) < 2 ^ 61)
