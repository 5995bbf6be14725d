use Rattle.std.proofs.Common.{◌≡◌, map}
use Rattle.std.specs.List.{range_with_len}
use Rattle.us_layout.specs.Splitting.{share_in}
use Rattle.us_layout.proofs.splitting.matrices_of.Given as goal

abbrev pub invariant-loop-part : goal.invariant-loop-part
invariant-loop-part l = l.matrices.items ≡ map (share_in l.matrix l.parts) (range_with_len 0 l.part)
