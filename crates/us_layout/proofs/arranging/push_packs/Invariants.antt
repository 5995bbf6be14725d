use Rattle.std.proofs.Common.{◌≡◌, ◌++◌, map, take}
use Rattle.us_format.specs.Packs.{CellsOf}
use Rattle.us_judge.specs.Views.{column_of}
use Rattle.us_layout.specs.Arranging.{list_of, plain_piece}
use Rattle.us_layout.specs.Interleaving.{interleaved_cells}
use Rattle.us_layout.proofs.arranging.push_packs.Given as goal

-- the packs so far
abbrev pub invariant-loop-pack : goal.invariant-loop-pack
invariant-loop-pack l = l.arranged ≡ l.initial.arranged ++ map (λ pack. interleaved_cells (map (λ c. list_of (map plain_piece l.pieces) l.lists (CellsOf c)) (map column_of pack))) (take l.pack-index l.packs)
