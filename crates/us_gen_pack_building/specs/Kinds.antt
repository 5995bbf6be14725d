-- The phases are typed in every context with room.
use Rattle.std.specs.Prelude.{◌≡◌, ℕ, ◌+◌, ◌^◌, ◌<◌, ◌≤◌, true}
use Rattle.us_code.specs.Typing.{Context, TypedPhases, after_phases, sees_all, are_distinct, is_listed}
use Rattle.us_gen_building.specs.Runs.{AreOrderly}
use Rattle.us_gen_building.specs.Kinds.{RoomFrom, SeesPart}
use Rattle.us_gen_pack_building.specs.declared.part.PackedLoops.{PackedLoops}
use Rattle.us_gen_pack_building.specs.Levels.{FitRuns}
use Rattle.us_gen_pack_building.specs.Phases.{level_count, packing_phases, packed_buffers, room}

abbrev pub PackingsTyped : Type 0
PackingsTyped =
    (g : Context) (x : PackedLoops) (f : ℕ) → RoomFrom g f → SeesPart g x.part → AreOrderly x.part.levels.items
    → FitRuns (level_count x + 1) x.packs.items → level_count x + 1 < 2 ^ 32 → TypedPhases g (packing_phases x f)

-- behind the phases: numbers of their own alone are new, what was visible is, and the buffers are new ones, none twice
pub record Leaves (g k : Context) (x : PackedLoops) (f : ℕ) : Type 0 where
  pub free : RoomFrom k (f + room x)
  pub sources : k.sources ≡ g.sources
  pub bufs : (b : ℕ) → b < f → k.bufs b ≡ g.bufs b
  pub dims : (d : ℕ) → d < f → k.dims d ≡ g.dims d
  pub buffers : sees_all k (packed_buffers x f) ≡ true
  pub once : are_distinct (packed_buffers x f) ≡ true
  pub own : (b : ℕ) → is_listed b (packed_buffers x f) ≡ true → (f ≤ b) × (b < f + room x)

abbrev pub PackingsLeave : Type 0
PackingsLeave = (g : Context) (x : PackedLoops) (f : ℕ) → RoomFrom g f → Leaves g (after_phases g (packing_phases x f)) x f
