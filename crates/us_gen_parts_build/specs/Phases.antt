-- The phases that build the buffers of a part of a format.
use Rattle.std.specs.Prelude.{ℕ, ◌+◌, ℤ, List, ◌∷◌, ◌++◌}
use Rattle.us_expr.specs.Tree.{Tree}
use Rattle.us_code.specs.declared.pieces.Columns.{Columns}
use Rattle.us_code.specs.Plain.{PhaseTree}
use Rattle.us_gen_coordinates.specs.Phase.{coordinates_phase}
use Rattle.us_gen_extents.specs.Extents.{extents_phase}
use Rattle.us_gen_pack_building.specs.declared.part.PackedLoops.{PackedLoops}
use Rattle.us_gen_pack_building.specs.Phases.{packing_phases, packed_buffers}

-- where the columns of coordinates begin, and the numbers of the phases that build
abbrev pub columns_from : ℕ → ℕ
columns_from n = n + 16

abbrev pub packing_from : ℕ → ℕ
packing_from n = n + 656

-- makes dims of the extents, then columns of coordinates, and builds all buffers
abbrev pub part_phases : Columns → List Tree → List ℤ → List ℕ → ℕ → PackedLoops → List PhaseTree
part_phases cs es lows extents n x = extents_phase extents n ∷ coordinates_phase cs es lows (columns_from n) ∷ packing_phases x (packing_from n)

-- the buffers of the queries, and behind them those that are built
abbrev pub part_names : List ℕ → ℕ → PackedLoops → List ℕ
part_names bs n x = bs ++ packed_buffers x (packing_from n)
