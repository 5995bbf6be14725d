use Rattle.std.proofs.Common.{take}
use Rattle.us_matrix.proofs.Merge.{Merging, InPlace}
use Rattle.us_matrix.proofs.merging.merge_sorted.Given as goal

abbrev pub invariant-loop-k : goal.invariant-loop-k
invariant-loop-k l =
    Merging l.fn.shape.rows l.fn.shape.cols l.initial.triples l.k (take l.count l.triples) l.i l.j l.sum × InPlace l.initial.triples l.triples l.k l.count l.sum
