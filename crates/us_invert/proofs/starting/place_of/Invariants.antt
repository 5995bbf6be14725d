use Rattle.std.proofs.Common.{◌≡◌, drop}
use Rattle.us_invert.specs.Start.{place_of}
use Rattle.us_invert.proofs.starting.place_of.Given as goal

abbrev pub invariant-loop-k : goal.invariant-loop-k
invariant-loop-k l = place_of 0 l.level_nodes l.n ≡ place_of l.k (drop l.k l.level_nodes) l.n
