-- The two phases that build the buffers of a part.
use Rattle.std.specs.Prelude.{ℕ, ◌+◌, ◌*◌, true, false, List, [], ◌∷◌, ◌++◌, length, take, Option, Some, None}
use Rattle.us_code.specs.declared.program.Dim.TheVariants as dim
use Rattle.us_code.specs.declared.program.CellKind.TheVariants as kind
use Rattle.us_code.specs.declared.program.Make.{Make}
use Rattle.us_code.specs.Plain.{Code, End, ◌+++◌, PhaseTree}
use Rattle.us_gen_build.specs.declared.levels.Role.{Role}
use Rattle.us_gen_build.specs.declared.levels.Role.TheVariants as role
use Rattle.us_gen_build.specs.Levels.{LevelTree}
use Rattle.us_gen_build.specs.Loops.{entry_of}
use Rattle.us_gen_build.specs.Blocks.{build_block}
use Rattle.us_gen_build.specs.Making.{makes}
use Rattle.us_gen_build.specs.Orders.{order_block}
use Rattle.us_gen_building.specs.declared.part.PartLevel.{PartLevel}
use Rattle.us_gen_building.specs.declared.part.PartLoops.{PartLoops}
use Rattle.us_gen_building.specs.declared.part.Descent.{Descent}
use Rattle.us_gen_building.specs.Levels.{columns, group_count, counted_levels, built_levels, dim_lines}

-- ---- names: the order is number f, and the first loop's turn follows

abbrev pub order_of : Option ℕ → ℕ → Option ℕ
order_of None f = None
order_of (Some k) f = Some f

-- the first register of a column, where the turn is in register a
abbrev pub first_column : Option ℕ → ℕ → ℕ
first_column order a = entry_of order a + 1

-- the first numbers of the levels of the first loop, of the dims, of the second loop's turn, of its levels, and behind all
abbrev pub counted_from : ℕ → ℕ → ℕ
counted_from f n = f + n + 4

abbrev pub dims_from : ℕ → ℕ → ℕ
dims_from f n = f + 5 * n + 4

abbrev pub turn_from : ℕ → ℕ → ℕ
turn_from f n = f + 7 * n + 4

abbrev pub built_from : ℕ → ℕ → ℕ
built_from f n = f + 8 * n + 8

abbrev pub ends_from : ℕ → ℕ → ℕ
ends_from f n = f + 12 * n + 12

-- above the first level
abbrev pub top_of : ℕ → ℕ → ℕ → Descent
top_of dims first register = record { is_top = true; is_rank = false; above = dim.Number 1; dims = dims; first = first; register = register }

-- ---- the first phase

-- the places of the entries in the order of their coordinates
abbrev pub places : ℕ → ℕ → Make
places f count = record { buf = f; len = dim.Name count; cell = kind.Below (dim.Name count) }

abbrev pub order_makes : Option ℕ → ℕ → ℕ → List Make
order_makes None f count = []
order_makes (Some k) f count = places f count ∷ []

abbrev pub order_code : Option ℕ → List PartLevel → ℕ → Code
order_code None ls f = End
order_code (Some k) ls f = order_block f (columns (take k ls))

-- the loop over the entries that counts the nodes of levels, if there are any
abbrev pub count_code : ℕ → Option ℕ → List PartLevel → ℕ → ℕ → ℕ → Code
count_code count order [] a first end = End
count_code count order (l ∷ ls) a first end =
    build_block (dim.Name count) order (columns (l ∷ ls)) (counted_levels (l ∷ ls) first (first_column order a)) a end

abbrev pub groups : List PartLevel → List PartLevel
groups ls = take (group_count ls) ls

abbrev pub counting_top : PartLoops → ℕ → Descent
counting_top x f =
    top_of (dims_from f (length x.levels.items)) (counted_from f (length x.levels.items)) (first_column (order_of x.keys f) (f + 1))

-- orders the entries by the first coordinates, counts nodes, and gives all numbers of positions as dims
abbrev pub counting_phase : PartLoops → ℕ → PhaseTree
counting_phase x f = record {
  makes = order_makes x.keys f x.count;
  body =
      order_code x.keys x.levels.items f
      +++ count_code x.count (order_of x.keys f) (groups x.levels.items) (f + 1) (counted_from f (length x.levels.items)) (dims_from f (length x.levels.items));
  lines = dim_lines x.count x.levels.items (counting_top x f);
}

-- ---- the second phase

abbrev pub building_top : PartLoops → ℕ → Descent
building_top x f =
    top_of (dims_from f (length x.levels.items)) (built_from f (length x.levels.items)) (first_column (order_of x.keys f) (turn_from f (length x.levels.items)))

abbrev pub all_built : PartLoops → ℕ → List LevelTree
all_built x f = built_levels x.count x.levels.items (building_top x f)

abbrev pub all_columns : PartLoops → List ℕ
all_columns x = columns x.levels.items ++ x.values ∷ []

-- makes the buffers, and fills them in one loop over the entries
abbrev pub building_phase : PartLoops → ℕ → PhaseTree
building_phase x f = record {
  makes = makes (all_built x f);
  body =
      build_block (dim.Name x.count) (order_of x.keys f) (all_columns x) (all_built x f) (turn_from f (length x.levels.items))
      (ends_from f (length x.levels.items));
  lines = [];
}

abbrev pub building_phases : PartLoops → ℕ → List PhaseTree
building_phases x f = counting_phase x f ∷ building_phase x f ∷ []

-- the buffers of levels, in order
abbrev pub level_buffers : Role → ℕ → List ℕ
level_buffers role.Full b = []
level_buffers role.Shared b = b ∷ (b + 1) ∷ []
level_buffers role.Single b = b ∷ (b + 1) ∷ []
level_buffers role.AtPosition b = (b + 1) ∷ []
level_buffers role.AtRank b = (b + 1) ∷ []
level_buffers role.Counted b = []
level_buffers role.Marked b = b ∷ []
level_buffers role.Kept b = []

abbrev pub all_buffers : List LevelTree → List ℕ
all_buffers [] = []
all_buffers (l ∷ ls) = level_buffers l.role l.first ++ all_buffers ls

-- how many numbers the phases take from f on
abbrev pub room : PartLoops → ℕ
room x = 15 * length x.levels.items + 20
