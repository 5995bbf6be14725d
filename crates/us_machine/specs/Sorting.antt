-- Lists by which places are ordered.
use Rattle.std.specs.Prelude.{◌≡◌, ℕ, ◌<◌, List, [], map, length, get_or, ℤ}
use Rattle.std.specs.List.{All}
use Rattle.us_code.specs.declared.program.Buf.{Buf}
use Rattle.us_raw.specs.Region.{Lists}
use Rattle.us_code.specs.Plain.{End, Order}
use Rattle.us_code.specs.Typing.{Context}
use Rattle.us_machine.specs.declared.tables.Tables.{Tables}
use Rattle.us_machine.specs.Tables.{seg_of}
use Rattle.us_machine.specs.Walks.{Ready}

-- the lists of the region at these places
abbrev pub lists_at : List (List ℤ) → List ℕ → List (List ℤ)
lists_at lists segs = map (λ s. get_or lists s []) segs

-- each of them has n cells
abbrev pub AreLists : List (List ℤ) → ℕ → List ℕ → Type 0
AreLists lists n segs = All (λ s. length (get_or lists s []) ≡ n) segs

-- the lists of the region that these buffers are
abbrev pub lists_of : Tables → List (List ℤ) → List Buf → List (List ℤ)
lists_of t lists keys = map (λ b. get_or lists (seg_of t b) []) keys

-- each of them has n cells
abbrev pub AreLong : Tables → List (List ℤ) → ℕ → List Buf → Type 0
AreLong t lists n keys = (i : ℕ) (d : Buf) → i < length keys → length (get_or lists (seg_of t (get_or keys i d)) []) ≡ n

-- an `order` that may run, whatever the sources and registers
pub record CanOrder (t : Tables) (r : Lists) (b : Buf) (keys : List Buf) : Type 0 where
  pub sources : List (List ℤ)
  pub regs : ℕ → ℤ
  pub context : Context
  pub ready : Ready t sources r regs context (Order b keys End)
