-- What is stored and printed, and what stands of it after each answer, of an outside that tells its files.
use Rattle.std.specs.Prelude.{◌≡◌, ℕ, ◌⊎◌, List, [], ◌∷◌, ◌++◌, Option, Some, None}
use Rattle.std.specs.Option.{option_map}
use Rattle.us_outside.specs.Files.{Files, stored, StoresPart, PrintsPart}
use Rattle.us_status.specs.declared.status.Slot.{Slot}
use Rattle.us_status.specs.declared.status.Slot.TheVariants.{Print}
use Rattle.us_status.specs.declared.status.Status.{Status}
use Rattle.us_status.specs.declared.status.Status.TheVariants.{Done, WriteFault, Memory}
use Rattle.us_status.specs.declared.status.Slot.TheVariants as slots

-- a file that is to be stored
pub record Store : Type 0 where
  pub slot : Slot
  pub name : List ℕ
  pub bytes : List ℕ

-- the stores in order, and the bytes that are printed behind them, where anything is printed
pub record Outcome : Type 0 where
  pub stores : List Store
  pub prints : Option (List ℕ)

abbrev pub nothing : Outcome
nothing = record { stores = []; prints = None }

abbrev pub after_stores : List Store → Files → Files
after_stores [] fs = fs
after_stores (s ∷ more) fs = after_stores more (stored s.name s.bytes fs)

abbrev pub after_print : Option (List ℕ) → Option (List ℕ) → Option (List ℕ)
after_print None printed = printed
after_print (Some bytes) printed = option_map (λ before. before ++ bytes) printed

-- all files, and what was printed, are as they were
abbrev pub Keeps : Files → Option (List ℕ) → Option Files → Option (List ℕ) → Type 0
Keeps fs printed fs' printed' = (fs' ≡ Some fs) × (printed' ≡ printed)

-- a failed store leaves its file as it was or the first bytes of what it was to hold; want of memory changes nothing
abbrev pub StopsInStore : Status → Store → Files → Option Files → Type 0
StopsInStore (WriteFault slot) s fs fs' = (slot ≡ s.slot) × StoresPart s.name s.bytes (Some fs) fs'
StopsInStore Memory s fs fs' = fs' ≡ Some fs
StopsInStore _ s fs fs' = ⊥

-- the run stopped at one of the stores; those before it are done
abbrev pub StopsInStores : Status → List Store → Files → Option Files → Type 0
StopsInStores answer [] fs fs' = ⊥
StopsInStores answer (s ∷ more) fs fs' = StopsInStore answer s fs fs' ⊎ StopsInStores answer more (stored s.name s.bytes fs) fs'

-- a failed print has printed the first bytes of what it was to print; want of memory prints nothing
abbrev pub StopsInPrint : Status → Option (List ℕ) → Option (List ℕ) → Option (List ℕ) → Type 0
StopsInPrint answer None printed printed' = ⊥
StopsInPrint (WriteFault slot) (Some bytes) printed printed' = (slot ≡ Print) × PrintsPart bytes printed printed'
StopsInPrint Memory (Some bytes) printed printed' = printed' ≡ printed
StopsInPrint _ (Some bytes) printed printed' = ⊥

-- the run stopped at one of the stores, and nothing is printed, or at the print behind them, and they are done
abbrev pub StopsAt : Status → Outcome → Files → Option (List ℕ) → Option Files → Option (List ℕ) → Type 0
StopsAt answer o fs printed fs' printed' =
    (StopsInStores answer o.stores fs fs' × (printed' ≡ printed)) ⊎ ((fs' ≡ Some (after_stores o.stores fs)) × StopsInPrint answer o.prints printed printed')

-- what stands of an outcome after an answer: all of it, or all up to the place at which the run stopped, or nothing
abbrev pub Stands : Outcome → Status → Files → Option (List ℕ) → Option Files → Option (List ℕ) → Type 0
Stands o Done fs printed fs' printed' = (fs' ≡ Some (after_stores o.stores fs)) × (printed' ≡ after_print o.prints printed)
Stands o (WriteFault slot) fs printed fs' printed' = StopsAt (WriteFault slot) o fs printed fs' printed'
Stands o Memory fs printed fs' printed' = Keeps fs printed fs' printed' ⊎ StopsAt Memory o fs printed fs' printed'
Stands o answer fs printed fs' printed' = Keeps fs printed fs' printed'

-- the output
abbrev pub output_of : List ℕ → List ℕ → Store
output_of name bytes = record { slot = slots.Output; name = name; bytes = bytes }

-- the listing
abbrev pub listing_store : List ℕ → List ℕ → Store
listing_store name bytes = record { slot = slots.Listing; name = name; bytes = bytes }
