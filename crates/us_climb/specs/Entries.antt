-- The entries that are read at positions, up to the first at which none can be read.
use Rattle.std.specs.Prelude.{ℕ, ℤ, List, [], ◌∷◌, ◌++◌, drop, length, map, slice_get, Bool, if◌then◌else◌, Option, Some, None}
use Rattle.std.specs.List.{range_with_len}
use Rattle.us_format.specs.Lists.{then_do}
use Rattle.us_format.specs.Matrix.{Entry, Shape, is_zero}
use Rattle.us_format.specs.Declaration.{Declaration}
use Rattle.us_format.specs.Program.{plain_entry}
use Rattle.us_format.specs.Reading.{all_contents, contents}
use Rattle.us_format.specs.Meaning.{Position, part_values, all_positions, value_in, entry_at}
use Rattle.us_judge.specs.Format.{part_at}
use Rattle.us_invert.specs.declared.recovering.Cell.{Cell}
use Rattle.us_climb.specs.Own.{buffers_before}
use Rattle.us_climb.specs.declared.found.Position as code
use Rattle.us_climb.specs.declared.found.Found.{Found}
use Rattle.us_climb.specs.declared.found.ReadEntries.{ReadEntries}

-- entries with their keys, and the key at which reading failed
pub record Read (K : Type 0) : Type 0 where
  pub found : List (K × Entry)
  pub failed : Option K

-- reading goes on behind an entry, and ends where there is none
abbrev pub with_entry : {K : Type 0} → K → Option Entry → Read K → Read K
with_entry key None rest = record { found = []; failed = Some key }
with_entry key (Some e) rest = record { found = (key, e) ∷ rest.found; failed = rest.failed }

-- what is read at these keys, but for those to be skipped
abbrev pub read_keys : {K : Type 0} → (K → Bool) → (K → Option Entry) → List K → Read K
read_keys skip read [] = record { found = []; failed = None }
read_keys skip read (key ∷ keys) = if skip key then read_keys skip read keys else with_entry key (read key) (read_keys skip read keys)

-- the entry whose value stands at a position
abbrev pub entry_in : Shape → Declaration → List (List ℤ) → Position → Option Entry
entry_in s d bufs at = then_do (slice_get (all_contents d.parts bufs) at.0) (λ part. entry_at s part.0 part.1 at.1)

-- whether the value at a position is 0
abbrev pub is_empty : Shape → Declaration → List (List ℤ) → Position → Bool
is_empty s d bufs at = is_zero (value_in s (slice_get (all_contents d.parts bufs) at.0) at.1)

-- what is read at all positions whose value is not 0
abbrev pub read_all : Shape → Declaration → List (List ℤ) → Read Position
read_all s d bufs = read_keys (is_empty s d bufs) (entry_in s d bufs) (all_positions s 0 (all_contents d.parts bufs))

-- the positions of the part k
abbrev pub part_positions : Shape → Declaration → List (List ℤ) → ℕ → List Position
part_positions s d bufs k =
    let held = contents (part_at d k) (drop (buffers_before d.parts k) bufs) in
    map (λ x. (k, x)) (range_with_len 0 (length (part_values s (part_at d k) held)))

-- what is read at those of them whose value is not 0
abbrev pub read_part : Shape → Declaration → List (List ℤ) → ℕ → Read Position
read_part s d bufs k = read_keys (is_empty s d bufs) (entry_in s d bufs) (part_positions s d bufs k)

-- entries in front of what is read
abbrev pub prepend : List (Position × Entry) → Read Position → Read Position
prepend found r = record { found = found ++ r.found; failed = r.failed }

-- ---- what the program reads

abbrev pub plain_position : code.Position → Position
plain_position p = (p.part, p.x)

abbrev pub plain_found : Found → Position × Entry
plain_found f = (plain_position f.position, plain_entry f.triple)

abbrev pub plain_failed : Option code.Position → Option Position
plain_failed None = None
plain_failed (Some p) = Some (plain_position p)

-- the entries that were found, and the position at which reading failed
abbrev pub found_to : List Found → Option code.Position → Read Position
found_to found failed = record { found = map plain_found found; failed = plain_failed failed }

abbrev pub plain_read : ReadEntries → Read Position
plain_read r = found_to r.found.items r.failed

-- the entry with these indices and a value
abbrev pub entry_of : Option Cell → ℤ → Option Entry
entry_of None v = None
entry_of (Some c) v = Some (record { i = c.i; j = c.j; v = v })

-- the value at a position
abbrev pub value_at : Shape → Declaration → List (List ℤ) → Position → ℤ
value_at s d bufs at = value_in s (slice_get (all_contents d.parts bufs) at.0) at.1
