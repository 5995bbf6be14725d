use Rattle.std.proofs.Common.{◌≡◌, map, take}
use Rattle.us_advise.specs.Least.{size_in, told}
use Rattle.us_advise.proofs.advising.sizes_of.Given as goal

abbrev pub invariant-loop-format : goal.invariant-loop-format
invariant-loop-format l = l.sizes ≡ map (λ d. told (size_in l.matrix d)) (take l.format-index l.formats)
