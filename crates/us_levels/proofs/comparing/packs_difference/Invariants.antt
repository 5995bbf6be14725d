use Rattle.std.proofs.Common.{map}
use Rattle.us_format.specs.Packs.{CellsOf}
use Rattle.us_judge.specs.Views.{column_of}
use Rattle.us_layout.specs.Arranging.{list_of, plain_piece}
use Rattle.us_layout.specs.Interleaving.{interleaved_cells}
use Rattle.us_levels.proofs.Unlike.{ArePassed}
use Rattle.us_levels.proofs.comparing.packs_difference.Given as goal

abbrev pub invariant-loop-pack : goal.invariant-loop-pack
invariant-loop-pack l = ArePassed l.first (λ pack. interleaved_cells (map (λ c. list_of (map plain_piece l.names) l.lists (CellsOf c)) (map column_of pack))) l.packs l.buffers l.pack-index l.place
