use Rattle.std.proofs.Common.{◌≡◌, All, FitsSigned, map, take}
use Rattle.std.specs.Int.{w64}
use Rattle.us_check.proofs.collecting.triples_of.Given as goal

abbrev pub invariant-loop-f : goal.invariant-loop-f
invariant-loop-f l = (l.triples.items ≡ map (λ f. f.triple) (take l.f-index l.found)) × All (λ t. FitsSigned w64 t.v) l.triples.items
