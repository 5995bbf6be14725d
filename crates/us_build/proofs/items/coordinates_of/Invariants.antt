use Rattle.us_build.proofs.Offsets.{AreOffsets}
use Rattle.us_build.proofs.items.coordinates_of.Given as goal

abbrev pub invariant-loop-k : goal.invariant-loop-k
invariant-loop-k l = AreOffsets l.point.i l.point.j l.point.vars.items l.exprs l.levels l.k l.coordinates
