-- What a container holds, or its first fault.
use Rattle.std.specs.Prelude.{◌≡◌, ℕ, suc, zero, Bool, true, false, ◌+◌, ◌-◌, ◌*◌, ◌/◌, ℤ, List, [], ◌∷◌, ◌++◌, map, length, take, drop, slice_index, min, nat_eq, nat_le, ◌&&◌, if◌then◌else◌, Option, Some, None, Result, Ok, Err}
use Rattle.std.specs.List.{range_with_len}
use Rattle.byteorder.specs.Endian.{little_number, twos_complement}
use Rattle.us_format.specs.Matrix.{Shape, Entry}
use Rattle.us_format.specs.Program.{shape_in, entries_in}
use Rattle.us_format.specs.Reading.{total_count}
use Rattle.us_decl.specs.Declares.{Declared}
use Rattle.us_judge.specs.declared.refusal.Refusal.{Refusal}
use Rattle.us_judge.specs.Acceptance.{first_refusal}
use Rattle.us_judge.specs.Views.{declaration_of}
use Rattle.us_check.specs.declared.held.Held.{Held}
use Rattle.us_check.specs.declared.broken.Broken.{Broken}
use Rattle.us_check.specs.declared.broken.Broken.TheVariants as broken
use Rattle.us_check.specs.Checks.{checked}
use Rattle.us_container.specs.declared.fault.ContainerFault.{ContainerFault}
use Rattle.us_container.specs.declared.fault.ContainerFault.TheVariants.{Magic, Version, Truncated, DeclText, Refused, Lengths, Trailing, TooLarge, Climb, Cell, Long, Memory}
use Rattle.us_container.specs.declared.fault.ContainerFault.TheVariants as fault
use Rattle.us_container.specs.Bytes.{magic}
use Rattle.us_container.specs.Text.{declaration_in}

-- what a container holds: its declaration and shape, the buffers, and the matrix that they mean
pub record Contained : Type 0 where
  pub declared : Declared
  pub shape : Shape
  pub buffers : List (List ℤ)
  pub entries : List Entry

infixl 10 ◌>>=◌
abbrev pub ◌>>=◌ : {A B : Type 0} → Result A ContainerFault → (A → Result B ContainerFault) → Result B ContainerFault
(Ok x) >>= f = f x
(Err fault) >>= f = Err fault

-- ---- fields, at the front of the bytes that are left of a file of `len` bytes

-- a field of n bytes and what is left behind it, unless the file ends in it
abbrev pub field : ℕ → ℕ → List ℕ → Result (List ℕ × List ℕ) ContainerFault
field len n rest = if nat_le n (length rest) then Ok (take n rest, drop n rest) else Err (Truncated (len - length rest))

-- a number of eight bytes
abbrev pub number : ℕ → List ℕ → Result (ℕ × List ℕ) ContainerFault
number len rest = field len 8 rest >>= λ f. Ok (little_number 8 f.0, f.1)

-- the n cells in front
unfoldable pub cells_of : ℕ → List ℕ → List ℤ
cells_of n rest = map (λ k. twos_complement 8 (little_number 8 (drop (8 * k) rest))) (range_with_len 0 n)

-- n cells; each is a field, so the first one that isn't whole is named
abbrev pub cells : ℕ → ℕ → List ℕ → Result (List ℤ × List ℕ) ContainerFault
cells len n rest = if nat_le (8 * n) (length rest) then Ok (cells_of n rest, drop (8 * n) rest) else Err (Truncated (len - length rest + 8 * (length rest / 8)))

-- a buffer: how many cells, and the cells
abbrev pub buffer : ℕ → List ℕ → Result (List ℤ × List ℕ) ContainerFault
buffer len rest = number len rest >>= λ n. cells len n.0 n.1

-- so many buffers, behind those that were read
abbrev pub buffers : ℕ → ℕ → List (List ℤ) → List ℕ → Result (List (List ℤ) × List ℕ) ContainerFault
buffers len zero found rest = Ok (found, rest)
buffers len (suc n) found rest = buffer len rest >>= λ b. buffers len n (found ++ b.0 ∷ []) b.1

-- ---- tests

-- whether the second list begins with the first
abbrev pub begins : List ℕ → List ℕ → Bool
begins [] ys = true
begins (x ∷ xs) [] = false
begins (x ∷ xs) (y ∷ ys) = nat_eq x y && begins xs ys

abbrev pub with_magic : List ℕ → Result (List ℕ) ContainerFault
with_magic bytes = if nat_le 7 (length bytes) && begins magic bytes then Ok (drop 7 bytes) else Err Magic

abbrev pub version : ℕ → List ℕ → Result (List ℕ) ContainerFault
version len rest = field len 1 rest >>= λ f. if nat_eq (slice_index f.0 0) 1 then Ok f.1 else Err (Version (slice_index f.0 0))

-- the declaration of the text that begins at this place
abbrev pub declaration_at : ℕ → Result Declared ℕ → Result Declared ContainerFault
declaration_at place (Ok d) = Ok d
declaration_at place (Err at) = Err (DeclText (place + at))

-- the text length, and the declaration of the text
abbrev pub declaration : ℕ → List ℕ → Result (Declared × List ℕ) ContainerFault
declaration len rest = number len rest >>= λ n. field len n.0 n.1 >>= λ f. declaration_at (len - length n.1) (declaration_in f.0) >>= λ d. Ok (d, f.1)

-- an accepted declaration
abbrev pub accepted : Option Refusal → Result (Unit {0}) ContainerFault
accepted None = Ok tt
accepted (Some r) = Err (Refused r)

-- rows or columns, from 1 to 2147483647
abbrev pub side : ℕ → List ℕ → Result (ℕ × List ℕ) ContainerFault
side len rest = number len rest >>= λ n. if nat_le 1 n.0 && nat_le n.0 2147483647 then Ok n else Err fault.Shape

-- rows and columns
abbrev pub shape_at : ℕ → List ℕ → Result (Shape × List ℕ) ContainerFault
shape_at len rest = side len rest >>= λ rows. side len rows.1 >>= λ cols. Ok (record { rows = rows.0; cols = cols.0 }, cols.1)

-- the number of buffers is that of the format; else the lower of the two is named
abbrev pub right_count : ℕ → ℕ → Result (Unit {0}) ContainerFault
right_count count wanted = if nat_eq count wanted then Ok tt else Err (Lengths (min count wanted))

-- nothing is left
abbrev pub at_end : ℕ → List ℕ → Result (Unit {0}) ContainerFault
at_end len [] = Ok tt
at_end len rest = Err (Trailing (len - length rest))

-- the reason why buffers are not well-formed
abbrev pub fault_of : Broken → ContainerFault
fault_of (broken.Lengths k) = Lengths k
fault_of broken.TooLarge = TooLarge
fault_of (broken.Climb part x) = Climb part x
fault_of (broken.Cell k x have want) = Cell k x have want
fault_of (broken.Long k have want) = Long k have want
fault_of broken.Memory = Memory

abbrev pub well_formed : {A : Type 0} → Result A Broken → Result A ContainerFault
well_formed (Ok m) = Ok m
well_formed (Err why) = Err (fault_of why)

-- ---- the container

-- as many buffers as are wanted, and nothing behind them
abbrev pub all_buffers : ℕ → ℕ → List ℕ → Result (List (List ℤ)) ContainerFault
all_buffers len wanted rest =
    number len rest >>= λ count.
    right_count count.0 wanted >>= λ _.
    buffers len count.0 [] count.1 >>= λ bufs.
    at_end len bufs.1 >>= λ _. Ok bufs.0

-- what well-formed buffers hold
abbrev pub held_in : Declared → Shape → List (List ℤ) → Result Contained ContainerFault
held_in d s bufs = well_formed (checked s (declaration_of d) bufs) >>= λ m. Ok (record { declared = d; shape = s; buffers = bufs; entries = m })

-- the buffers, and that they are well-formed
abbrev pub buffers_in : ℕ → Declared → Shape → List ℕ → Result Contained ContainerFault
buffers_in len d s rest =
    number len rest >>= λ count.
    right_count count.0 (total_count (declaration_of d)) >>= λ _.
    buffers len count.0 [] count.1 >>= λ bufs.
    at_end len bufs.1 >>= λ _. held_in d s bufs.0

-- the shape and the buffers of a declaration
abbrev pub behind_text : ℕ → Declared → List ℕ → Result Contained ContainerFault
behind_text len d rest = side len rest >>= λ rows. side len rows.1 >>= λ cols. buffers_in len d (record { rows = rows.0; cols = cols.0 }) cols.1

-- the fields in order, each tested as soon as it is there
abbrev pub contained_in : List ℕ → Result Contained ContainerFault
contained_in bytes =
    let len = length bytes in
    with_magic bytes >>= λ body.
    version len body >>= λ rest.
    declaration len rest >>= λ d.
    accepted (first_refusal (declaration_of d.0)) >>= λ _.
    behind_text len d.0 d.1

-- a held matrix is what the container holds
pub record IsContained (h : Held) (c : Contained) : Type 0 where
  pub declared : h.declared ≡ c.declared
  pub shape : shape_in h.matrix ≡ c.shape
  pub buffers : h.buffers ≡ c.buffers
  pub entries : entries_in h.matrix ≡ c.entries

-- what reading answers: what the container holds, or its first fault; of want of memory nothing is said
abbrev pub TellsContained : Result Contained ContainerFault → Result Held ContainerFault → Type 0
TellsContained plain (Ok h) = (c : Contained) × (plain ≡ Ok c) × IsContained h c
TellsContained plain (Err Memory) = Unit {0}
TellsContained plain (Err f) = plain ≡ Err f
