use Rattle.std.proofs.Common.{◌≡◌, ◌++◌, map, not, take}
use Rattle.std.specs.List.{filter}
use Rattle.us_format.specs.Packs.{is_packed}
use Rattle.us_judge.specs.Views.{plain_part}
use Rattle.us_layout.specs.Arranging.{list_of, plain_piece}
use Rattle.us_layout.proofs.arranging.push_own.Given as goal

-- the lists so far
abbrev pub invariant-loop-piece : goal.invariant-loop-piece
invariant-loop-piece l =
    l.arranged ≡ l.initial.arranged ++ map (list_of (map plain_piece l.pieces) l.lists) (filter (λ x. not (is_packed (plain_part l.part) x)) (map plain_piece (take l.piece-index l.pieces)))
