-- Phases that build the buffers of a part keep the limits of a program's text.
use Rattle.std.specs.Prelude.{ℕ, suc, ◌+◌, ◌*◌, ◌^◌, ◌<◌, ◌≤◌, List, [], ◌∷◌, length, ℤ, pos, negsuc, Option, Some, None}
use Rattle.us_code.specs.declared.pieces.Columns.{Columns}
use Rattle.us_code.specs.Limits.{FitsDim}
use Rattle.us_expr.specs.Tree.{Tree}
use Rattle.us_gen_building.specs.declared.part.PartLevel.{PartLevel}
use Rattle.us_gen_building.specs.declared.part.PartLoops.{PartLoops}
use Rattle.us_gen_building.specs.Keys.{order_keys}
use Rattle.us_gen_building.specs.Phases.{building_phases}
use Rattle.us_gen_building.specs.Phases as plain
use Rattle.us_gen_coordinates.specs.Phase.{coordinates_phase}
use Rattle.us_gen_coordinates.specs.Laws.{AreLevels}
use Rattle.us_gen_extents.specs.Extents.{extents_phase}
use Rattle.us_gen_pack_building.specs.declared.part.PackedLoops.{PackedLoops}
use Rattle.us_gen_pack_building.specs.Levels.{FitRuns}
use Rattle.us_gen_pack_building.specs.Phases.{level_count, room, packing_phases}
use Rattle.us_limits.specs.Small.{KeepText}

abbrev pub ExtentsKeepLimits : Type 0
ExtentsKeepLimits = (bs : List ℕ) (n : ℕ) → KeepText (2 * length bs) (extents_phase bs n ∷ [])

-- low ends are numbers of a text
abbrev pub FitsLow : ℤ → Type 0
FitsLow (pos k) = k < 2 ^ 63
FitsLow (negsuc k) = suc k < 2 ^ 63

abbrev pub FitLows : List ℤ → Type 0
FitLows [] = Unit {0}
FitLows (low ∷ lows) = FitsLow low × FitLows lows

-- of at most 32 variables
abbrev pub CoordinatesKeepLimits : Type 0
CoordinatesKeepLimits =
    (cs : Columns) (es : List Tree) (lows : List ℤ) (n : ℕ) → cs.count < 2 ^ 32 → length cs.vars.items ≤ 32 → AreLevels cs es lows → FitLows lows
    → KeepText (40 * length es) (coordinates_phase cs es lows n ∷ [])

-- ---- the buffers

-- the sizes of levels are dims of a text
abbrev pub SizesFit : List PartLevel → Type 0
SizesFit [] = Unit {0}
SizesFit (l ∷ ls) = FitsDim l.size × SizesFit ls

-- at least one level has a key
abbrev pub KeysFit : Option ℕ → List PartLevel → Type 0
KeysFit None ls = Unit {0}
KeysFit (Some k) ls = (1 ≤ k) × (1 ≤ length ls)

abbrev pub KeysFitLevels : Type 0
KeysFitLevels = (ls : List PartLevel) → KeysFit (order_keys ls) ls

-- a part of at most 16 levels without packs, and numbers of 32 bits
pub record HasShortLevels (x : PartLoops) (f : ℕ) : Type 0 where
  pub levels : length x.levels.items ≤ 16
  pub count : x.count < 2 ^ 32
  pub sizes : SizesFit x.levels.items
  pub keys : KeysFit x.keys x.levels.items
  pub numbers : f + plain.room x < 2 ^ 32

abbrev pub BuildingsKeepLimits : Type 0
BuildingsKeepLimits = (x : PartLoops) (f : ℕ) → HasShortLevels x f → KeepText 1024 (building_phases x f)

-- a part of at most 16 levels, whose packs have columns of theirs, and numbers of 32 bits
pub record HasShortNames (x : PackedLoops) (f : ℕ) : Type 0 where
  pub levels : level_count x ≤ 16
  pub packs : length x.packs.items ≤ 17
  pub runs : FitRuns (level_count x + 1) x.packs.items
  pub count : x.part.count < 2 ^ 32
  pub sizes : SizesFit x.part.levels.items
  pub keys : KeysFit x.part.keys x.part.levels.items
  pub numbers : f + room x < 2 ^ 32

abbrev pub PackingsKeepLimits : Type 0
PackingsKeepLimits = (x : PackedLoops) (f : ℕ) → HasShortNames x f → KeepText 1024 (packing_phases x f)
