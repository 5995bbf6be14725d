-- The loops are typed in every context with room.
use Rattle.std.specs.Prelude.{◌≡◌, ℕ, ◌+◌, ◌<◌, true, false, nat_lt, List, [], ◌∷◌, length, All, Some}
use Rattle.us_code.specs.declared.program.Dim.{Dim}
use Rattle.us_code.specs.declared.program.Dim.TheVariants as dim
use Rattle.us_code.specs.declared.program.CellKind.TheVariants as kind
use Rattle.us_code.specs.Plain.{Code}
use Rattle.us_code.specs.Typing.{Context, sees_dim, spans, fine, Typed}
use Rattle.us_gen.specs.Rooms.{FreshFrom, in_level, in_nest}
use Rattle.us_gen_recover.specs.Recovery.{table}
use Rattle.us_gen_recover.specs.Rooms.{NamesWithin, in_recovery}
use Rattle.us_invert.specs.declared.steps.PlanStep.{PlanStep}
use Rattle.us_gen_walk.specs.declared.places.Column.{Column}
use Rattle.us_gen_walk.specs.declared.places.Column.TheVariants as column
use Rattle.us_gen_walk.specs.declared.places.Loop.{Loop}
use Rattle.us_gen_walk.specs.declared.places.Loop.TheVariants as over
use Rattle.us_gen_walk.specs.declared.places.Slot.{Slot}
use Rattle.us_gen_walk.specs.declared.places.Places.{Places}
use Rattle.us_gen_walk.specs.Walk.{tested, loop_levels, slot_levels, coordinates, leaf_at, steps_at, walk, value_register, index_term, end}

-- the source of a column is visible
abbrev pub SeesColumn : Context → Column → Type 0
SeesColumn g (column.Own k) = nat_lt k g.sources ≡ true
SeesColumn g (column.Packed k w digit) = nat_lt k g.sources ≡ true

-- the coordinates of nodes in a source of their own are as many as the nodes by their dim
abbrev pub HasLength : Dim → Column → Type 0
HasLength nodes (column.Own k) = nodes ≡ dim.Len k
HasLength nodes (column.Packed k w digit) = Unit {0}

-- the sources and dims of a level are visible, and `more` is one more than the nodes
abbrev pub SeesLoop : Context → Loop → Type 0
SeesLoop g (over.Full size low) = sees_dim g size ≡ true
SeesLoop g (over.Nodes k more nodes crd low) =
    (nat_lt k g.sources ≡ true) × (sees_dim g more ≡ true) × (sees_dim g nodes ≡ true) × (spans g (kind.Below more) (kind.Below more) nodes ≡ true)
    × SeesColumn g crd × HasLength nodes crd

abbrev pub SeesLoops : Context → List Loop → Type 0
SeesLoops g [] = Unit {0}
SeesLoops g (l ∷ ls) = SeesLoop g l × SeesLoops g ls

abbrev pub SeesSlots : Context → List Slot → Type 0
SeesSlots g [] = Unit {0}
SeesSlots g (x ∷ xs) = SeesColumn g x.crd × SeesSlots g xs

-- all that is read is visible
pub record SeesPlaces (g : Context) (w : Places) : Type 0 where
  pub loops : SeesLoops g w.loops.items
  pub values : SeesColumn g w.values
  pub slots : SeesSlots g w.slots.items
  pub tables : (q : ℕ) → q < length w.tables.items → nat_lt (table w.tables.items q).source g.sources ≡ true
  pub extents : (q : ℕ) → q < length w.tables.items → sees_dim g (table w.tables.items q).extent ≡ true

-- what is visible inside
abbrev pub in_leaf : Context → Places → ℕ → Context
in_leaf g w n = in_level (in_nest g (loop_levels w.loops.items) n) (tested w.values) (leaf_at w n)

abbrev pub in_walk : Context → Places → List PlanStep → ℕ → Context
in_walk g w steps n = in_recovery (in_nest (in_leaf g w n) (slot_levels w.slots.items) (leaf_at w n + 2)) w.tables.items steps (steps_at w n)

-- around a block that is typed inside, the loops are typed
pub record TypedWalk (g : Context) (w : Places) (steps : List PlanStep) (n : ℕ) : Type 0 where
  pub typed : (inner : Code) → Typed (in_walk g w steps n) inner → Typed g (walk w steps n inner)
  -- inside, the terms of the indices are fine, and the value's register is a word
  pub index_fine : (k : ℕ) → fine (in_walk g w steps n) (index_term w steps n k) ≡ true
  pub value_is : (in_walk g w steps n).regs (value_register w n) ≡ Some record { is_var = false; kind = kind.Word }
  -- what was visible still is, and registers behind the loops' own are fresh
  pub regs : (r : ℕ) → r < n → (in_walk g w steps n).regs r ≡ g.regs r
  pub bufs : (in_walk g w steps n).bufs ≡ g.bufs
  pub dims : (in_walk g w steps n).dims ≡ g.dims
  pub sources : (in_walk g w steps n).sources ≡ g.sources
  pub fresh : FreshFrom (in_walk g w steps n) (end w steps n)

-- in every context with room, where steps name levels and queries that there are
abbrev pub WalkIsTyped : Type 0
WalkIsTyped =
    (g : Context) (w : Places) (steps : List PlanStep) (n : ℕ) → FreshFrom g n → SeesPlaces g w
    → All (NamesWithin (length (coordinates w n)) (length w.tables.items)) steps → TypedWalk g w steps n
