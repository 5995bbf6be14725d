use Rattle.us_changes.proofs.MergeLemmas.{IsMergedTo}
use Rattle.us_changes.proofs.merging.merge.Given as goal

abbrev pub invariant-loop-k : goal.invariant-loop-k
invariant-loop-k l = IsMergedTo l.shape.rows l.shape.cols l.sets l.entries l.rest l.merged.entries.items l.merged.back.items l.k
