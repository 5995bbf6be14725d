-- The phases are typed in every context with room.
use Rattle.std.specs.Prelude.{◌≡◌, ℕ, ◌+◌, ◌<◌, ◌≤◌, true, List, [], ◌∷◌, None}
use Rattle.us_code.specs.declared.program.Dim.{Dim}
use Rattle.us_code.specs.declared.program.Dim.TheVariants as dim
use Rattle.us_code.specs.Typing.{Context, sees_dim, TypedPhases, after_phases, sees_all, are_distinct, is_listed}
use Rattle.us_gen.specs.Rooms.{FreshFrom}
use Rattle.us_gen_build.specs.Kinds.{words_of}
use Rattle.us_gen_building.specs.declared.part.PartLevel.{PartLevel}
use Rattle.us_gen_building.specs.declared.part.PartLoops.{PartLoops}
use Rattle.us_gen_building.specs.Phases.{all_columns, all_built, all_buffers, building_phases, room}
use Rattle.us_gen_building.specs.Runs.{AreOrderly}

-- the sizes of levels are visible
abbrev pub SizesSeen : Context → List PartLevel → Type 0
SizesSeen g [] = Unit {0}
SizesSeen g (l ∷ ls) = (sees_dim g l.size ≡ true) × SizesSeen g ls

-- columns of words, as long as a dim
abbrev pub AreColumns : Context → Dim → List ℕ → Type 0
AreColumns g d [] = Unit {0}
AreColumns g d (b ∷ bs) = (g.bufs b ≡ words_of d) × AreColumns g d bs

-- in front of a phase, where numbers from f on are free
pub record RoomFrom (g : Context) (f : ℕ) : Type 0 where
  pub regs : FreshFrom g 0
  pub bufs : (b : ℕ) → f ≤ b → g.bufs b ≡ None
  pub dims : (d : ℕ) → f ≤ d → g.dims d ≡ None

-- what the phases read
pub record SeesPart (g : Context) (x : PartLoops) : Type 0 where
  pub count : sees_dim g (dim.Name x.count) ≡ true
  pub sizes : SizesSeen g x.levels.items
  pub columns : AreColumns g (dim.Name x.count) (all_columns x)

abbrev pub BuildingsTyped : Type 0
BuildingsTyped = (g : Context) (x : PartLoops) (f : ℕ) → RoomFrom g f → SeesPart g x → AreOrderly x.levels.items → TypedPhases g (building_phases x f)

-- behind the phases: numbers of their own alone are new, what was visible is, and the buffers are new ones, none twice
pub record Leaves (g k : Context) (x : PartLoops) (f : ℕ) : Type 0 where
  pub free : RoomFrom k (f + room x)
  pub sources : k.sources ≡ g.sources
  pub bufs : (b : ℕ) → b < f → k.bufs b ≡ g.bufs b
  pub dims : (d : ℕ) → d < f → k.dims d ≡ g.dims d
  pub buffers : sees_all k (all_buffers (all_built x f)) ≡ true
  pub once : are_distinct (all_buffers (all_built x f)) ≡ true
  pub own : (b : ℕ) → is_listed b (all_buffers (all_built x f)) ≡ true → (f ≤ b) × (b < f + room x)

abbrev pub BuildingsLeave : Type 0
BuildingsLeave = (g : Context) (x : PartLoops) (f : ℕ) → RoomFrom g f → Leaves g (after_phases g (building_phases x f)) x f
