use Rattle.std.proofs.Common.{◌≡◌, map, take}
use Rattle.us_format.specs.Packs.{CellsOf}
use Rattle.us_judge.specs.Views.{column_of}
use Rattle.us_layout.specs.Arranging.{list_of, plain_piece}
use Rattle.us_layout.proofs.arranging.pack_cells.Given as goal

-- the columns so far
abbrev pub invariant-loop-column : goal.invariant-loop-column
invariant-loop-column l = map (λ column. column.now) l.columns.items ≡ map (λ c. list_of (map plain_piece l.pieces) l.lists (CellsOf c)) (map column_of (take l.column-index l.column-items))
