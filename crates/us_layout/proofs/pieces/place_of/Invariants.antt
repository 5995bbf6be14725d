use Rattle.std.proofs.Common.{◌≡◌, ℕ, ◌<◌, false, get_or}
use Rattle.us_format.specs.Packs.{same_piece}
use Rattle.us_layout.specs.Arranging.{plain_piece}
use Rattle.us_layout.proofs.pieces.place_of.Given as goal

-- none of the pieces so far is the same
abbrev pub invariant-loop-place : goal.invariant-loop-place
invariant-loop-place l = (k : ℕ) → k < l.place → same_piece (plain_piece l.piece) (plain_piece (get_or l.pieces k l.piece)) ≡ false
