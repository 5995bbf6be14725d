-- The phase is typed in every context with room.
use Rattle.std.specs.Prelude.{◌≡◌, ◌≢◌, ℕ, true, List, [], ◌∷◌, length, All, None}
use Rattle.us_code.specs.declared.program.Dim.TheVariants as dim
use Rattle.us_code.specs.declared.pieces.Columns.{Columns}
use Rattle.us_code.specs.Typing.{Context, sees_dim, TypedPhases}
use Rattle.us_gen.specs.Rooms.{FreshFrom}
use Rattle.us_gen_recover.specs.Rooms.{NamesWithin}
use Rattle.us_gen_walk.specs.Walk.{coordinates}
use Rattle.us_gen_walk.specs.Rooms.{SeesPlaces}
use Rattle.us_gen_unpack.specs.declared.listing.PartWalk.{PartWalk}
use Rattle.us_gen_unpack.specs.Listing.{listing_phase}

-- all that the loops of a part read is visible
pub record SeesPart (g : Context) (x : PartWalk) : Type 0 where
  pub places : SeesPlaces g x.places
  pub names : (n : ℕ) → All (NamesWithin (length (coordinates x.places n)) (length x.places.tables.items)) x.steps.items

abbrev pub SeesParts : Context → List PartWalk → Type 0
SeesParts g [] = Unit {0}
SeesParts g (x ∷ xs) = SeesPart g x × SeesParts g xs

-- the columns are three new buffers
pub record AreNew (g : Context) (c : Columns) : Type 0 where
  pub i : g.bufs c.i ≡ None
  pub j : g.bufs c.j ≡ None
  pub v : g.bufs c.v ≡ None
  pub i_j : c.i ≢ c.j
  pub i_v : c.i ≢ c.v
  pub j_v : c.j ≢ c.v

-- where no register is visible, as in front of a phase
abbrev pub ListingIsTyped : Type 0
ListingIsTyped =
    (g : Context) (c : Columns) (k : ℕ) (xs : List PartWalk) → FreshFrom g 0 → sees_dim g (dim.Name c.count) ≡ true → AreNew g c → SeesParts g xs
    → TypedPhases g (listing_phase c k xs ∷ [])
