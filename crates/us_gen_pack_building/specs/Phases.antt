-- The two phases that build all buffers of a part with packs.
use Rattle.std.specs.Prelude.{ℕ, ◌+◌, ◌*◌, List, [], ◌∷◌, ◌++◌, length}
use Rattle.us_code.specs.declared.program.Dim.TheVariants as dim
use Rattle.us_code.specs.Plain.{LineTree, PhaseTree}
use Rattle.us_gen_build.specs.Levels.{LevelTree}
use Rattle.us_gen_build.specs.Making.{makes}
use Rattle.us_gen_packs.specs.Packs.{PackTree, packed_block}
use Rattle.us_gen_packs.specs.Making.{pack_makes}
use Rattle.us_gen_building.specs.declared.part.Descent.{Descent}
use Rattle.us_gen_building.specs.Phases as plain
use Rattle.us_gen_building.specs.Phases.{order_of, turn_from, ends_from, building_top, all_columns, all_buffers}
use Rattle.us_gen_pack_building.specs.declared.part.PackedLoops.{PackedLoops}
use Rattle.us_gen_pack_building.specs.Levels.{packed_levels, bottom, writers, pack_lines, pack_buffers}

-- how many levels there are, and how many packs
abbrev pub level_count : PackedLoops → ℕ
level_count x = length x.part.levels.items

abbrev pub pack_count : PackedLoops → ℕ
pack_count x = length x.packs.items

-- how many numbers the phases take from f on
abbrev pub room : PackedLoops → ℕ
room x = 15 * length x.part.levels.items + 20 + length x.packs.items

-- ---- the loop that builds

abbrev pub packing_top : PackedLoops → ℕ → Descent
packing_top x f = building_top x.part f

abbrev pub all_levels : PackedLoops → ℕ → List LevelTree
all_levels x f = packed_levels x.part.count x.packs.items 0 x.part.levels.items (packing_top x f)

-- the numbers of the packs follow those of the levels
abbrev pub all_packs : PackedLoops → ℕ → List PackTree
all_packs x f =
    writers x.packs.items (ends_from f (level_count x)) (packing_top x f).register (bottom x.part.count x.part.levels.items (packing_top x f))

-- ---- phases

abbrev pub with_lines : PhaseTree → List LineTree → PhaseTree
with_lines p more = record { makes = p.makes; body = p.body; lines = p.lines ++ more }

-- the first phase gives the numbers of the packs' cells too
abbrev pub cell_counting_phase : PackedLoops → ℕ → PhaseTree
cell_counting_phase x f = with_lines (plain.counting_phase x.part f) (pack_lines (all_packs x f))

-- the second makes the buffers and the packs, and fills them in one loop over the entries
abbrev pub packing_phase : PackedLoops → ℕ → PhaseTree
packing_phase x f = record {
  makes = makes (all_levels x f) ++ pack_makes (all_packs x f);
  body =
      packed_block (dim.Name x.part.count) (order_of x.part.keys f) (all_columns x.part) (all_levels x f) (all_packs x f)
      (turn_from f (level_count x)) (ends_from f (level_count x) + pack_count x);
  lines = [];
}

abbrev pub packing_phases : PackedLoops → ℕ → List PhaseTree
packing_phases x f = cell_counting_phase x f ∷ packing_phase x f ∷ []

-- what the levels and the values keep of their own, in order, and the packs
abbrev pub packed_buffers : PackedLoops → ℕ → List ℕ
packed_buffers x f = all_buffers (all_levels x f) ++ pack_buffers (all_packs x f)
