use Rattle.std.proofs.Common.{◌≡◌, ◌++◌, map, drop}
use Rattle.us_layout.specs.Arranging.{pieces_by, plain_piece}
use Rattle.us_layout.proofs.pieces.pieces_of.Given as goal

-- the pieces so far, and those of the levels that are left, are all
abbrev pub invariant-loop-level : goal.invariant-loop-level
invariant-loop-level l = map plain_piece l.pieces.items ++ pieces_by l.level (drop l.level l.kinds) ≡ pieces_by 0 l.kinds
