use Rattle.std.proofs.Common.{length}
use Rattle.us_mm.proofs.PiecesLemmas.{Fed}
use Rattle.us_mm.proofs.pieces.Pieces.feed.Given as goal

abbrev pub invariant-loop-left : goal.invariant-loop-left
invariant-loop-left l = Fed l.fn.self l.self l.piece l.left

abbrev pub decreases-loop-left : goal.decreases-loop-left
decreases-loop-left l = length l.left
