-- The calls of the outside that a command makes.
use Rattle.std.specs.Prelude.{ℕ, List, [], ◌∷◌, Option, Some, None}
use Rattle.us_outside.specs.declared.outside.Call.{Call}
use Rattle.us_outside.specs.declared.outside.Call.TheVariants.{Fetch, Store}
use Rattle.us_outside.specs.declared.outside.Call.TheVariants as outside
use Rattle.us_status.specs.declared.status.Slot.{Slot}
use Rattle.us_status.specs.declared.status.Slot.TheVariants.{Listing, Print}

-- a kind of call, with the file that it is made on and that file's place in the command
pub record Use : Type 0 where
  pub slot : Slot
  pub call : Call
  pub name : List ℕ

abbrev pub reads : Slot → List ℕ → Use
reads slot name = record { slot = slot; call = Fetch; name = name }

abbrev pub stores : Slot → List ℕ → Use
stores slot name = record { slot = slot; call = Store; name = name }

abbrev pub print_use : Use
print_use = record { slot = Print; call = outside.Print; name = [] }

-- that of a listing
abbrev pub listing_uses : Option (List ℕ) → List Use
listing_uses None = []
listing_uses (Some name) = stores Listing name ∷ []
