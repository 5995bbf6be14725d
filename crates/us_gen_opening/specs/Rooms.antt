-- The phase is typed in every context with room.
use Rattle.std.specs.Prelude.{◌≡◌, ℕ, ◌≤◌, true, nat_lt, List, [], ◌∷◌, Some, None}
use Rattle.us_code.specs.Typing.{Form, Of, Context, after_phase, TypedPhases}
use Rattle.us_gen.specs.Rooms.{FreshFrom}
use Rattle.us_gen_walk.specs.declared.places.Loop.{Loop}
use Rattle.us_gen_walk.specs.declared.places.Loop.TheVariants as over
use Rattle.us_gen_walk.specs.Rooms.{SeesColumn}
use Rattle.us_gen_opening.specs.declared.parts.Extent.{Extent}
use Rattle.us_gen_opening.specs.declared.parts.Opening.{Opening}
use Rattle.us_gen_opening.specs.Opening.{all_lines, opening_phase}
use Rattle.us_gen_opening.specs.Dims.{AreNew, AreNamed, DimsSeen}

-- the sources of extents, coordinates and values are visible
abbrev pub SeesExtents : Context → List Extent → Type 0
SeesExtents g [] = Unit {0}
SeesExtents g (e ∷ es) = (nat_lt e.source g.sources ≡ true) × SeesExtents g es

abbrev pub SeesNodes : Context → List Loop → Type 0
SeesNodes g [] = Unit {0}
SeesNodes g (over.Full size low ∷ ls) = SeesNodes g ls
SeesNodes g (over.Nodes k more nodes crd low ∷ ls) = SeesColumn g crd × SeesNodes g ls

-- and the levels with nodes have dims
pub record SeesOpening (g : Context) (o : Opening) : Type 0 where
  pub extents : SeesExtents g o.extents.items
  pub nodes : SeesNodes g o.loops.items
  pub values : SeesColumn g o.values
  pub named : AreNamed o.loops.items

abbrev pub SeesOpenings : Context → List Opening → Type 0
SeesOpenings g [] = Unit {0}
SeesOpenings g (o ∷ os) = SeesOpening g o × SeesOpenings g os

-- behind the phase its dims are visible, and all that was
pub record IsOpened (g h : Context) (count : ℕ) (os : List Opening) : Type 0 where
  pub dims : DimsSeen h os
  pub counted : h.dims count ≡ Some Of
  pub kept : (d : ℕ) (f : Form) → g.dims d ≡ Some f → h.dims d ≡ Some f
  pub sources : h.sources ≡ g.sources
  pub bufs : h.bufs ≡ g.bufs
  pub fresh : FreshFrom h 0

pub record TypedOpening (g : Context) (count n : ℕ) (os : List Opening) : Type 0 where
  pub typed : TypedPhases g (opening_phase count n os ∷ [])
  pub opened : IsOpened g (after_phase g (opening_phase count n os)) count os

-- where no register from n on is visible, and no dim from low on
abbrev pub OpeningIsTyped : Type 0
OpeningIsTyped =
    (g : Context) (count n low : ℕ) (os : List Opening) → FreshFrom g n → ((d : ℕ) → low ≤ d → g.dims d ≡ None) → SeesOpenings g os
    → AreNew low (all_lines count n os) → TypedOpening g count n os
