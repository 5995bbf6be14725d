-- The first reason why buffers are not well-formed within the limit.
use Rattle.std.specs.Prelude.{◌≡◌, ◌≤◌, ℕ, suc, ℤ, List, nat_le, if◌then◌else◌, Option, Some, None, Result, Ok, Err}
use Rattle.us_decl.specs.Declares.{Declared}
use Rattle.us_format.specs.Matrix.{Shape, Entry}
use Rattle.us_format.specs.Declaration.{Declaration}
use Rattle.us_format.specs.Program.{shape_in, entries_in}
use Rattle.us_format.specs.Reading.{limit, misfit, size_in}
use Rattle.us_format.specs.Meaning.{Position, IsWellFormed, collected}
use Rattle.us_judge.specs.Views.{declaration_of}
use Rattle.us_levels.specs.declared.differing.Difference.{Difference}
use Rattle.us_levels.specs.declared.differing.Difference.TheVariants as difference
use Rattle.us_levels.specs.Differences.{difference_of}
use Rattle.us_check.specs.declared.held.Held.{Held}
use Rattle.us_check.specs.declared.broken.Broken.{Broken}
use Rattle.us_check.specs.declared.broken.Broken.TheVariants.{Lengths, TooLarge, Climb, Cell, Long, Memory}

-- a difference as a reason
abbrev pub broken_by : Difference → Broken
broken_by (difference.Cell k x have want) = Cell k x have want
broken_by (difference.Long k have want) = Long k have want

-- the matrix, unless its own buffers differ from these
abbrev pub unless_different : List Entry → Option Difference → Result (List Entry) Broken
unless_different m None = Ok m
unless_different m (Some d) = Err (broken_by d)

-- the entries that were found, compared with the buffers; a position that fails is named by its part, counted from 1
abbrev pub compared : Shape → Declaration → List (List ℤ) → Result (List Entry) Position → Result (List Entry) Broken
compared s d bufs (Err at) = Err (Climb (suc at.0) at.1)
compared s d bufs (Ok m) = unless_different m (difference_of s d m bufs)

-- what is read at the positions, compared with the buffers
abbrev pub read_back : Shape → Declaration → List (List ℤ) → Result (List Entry) Broken
read_back s d bufs = compared s d bufs (collected s d bufs)

-- lengths, then the limit, then the positions, then the cells
abbrev pub fitting : Shape → Declaration → List (List ℤ) → Option ℕ → Result (List Entry) Broken
fitting s d bufs (Some buffer) = Err (Lengths buffer)
fitting s d bufs None = if nat_le (size_in s d bufs) limit then read_back s d bufs else Err TooLarge

-- the matrix whose buffers these are, within the limit, or the first reason why there is none
abbrev pub checked : Shape → Declaration → List (List ℤ) → Result (List Entry) Broken
checked s d bufs = fitting s d bufs (misfit s d bufs)

-- what a fault tells: it is the first reason; of want of memory nothing is said
abbrev pub TellsFault : Result (List Entry) Broken → Broken → Type 0
TellsFault is Memory = Unit {0}
TellsFault is fault = is ≡ Err fault

-- what an answer tells: the held matrix, with the given format, shape and buffers, or the fault
abbrev pub Tells : Shape → Declared → List (List ℤ) → Result (List Entry) Broken → Result Held Broken → Type 0
Tells s d bufs is (Ok h) = (is ≡ Ok (entries_in h.matrix)) × ((h.declared ≡ d) × ((shape_in h.matrix ≡ s) × (h.buffers ≡ bufs)))
Tells s d bufs is (Err fault) = TellsFault is fault

-- what checking answers
abbrev pub TellsChecked : Shape → Declared → List (List ℤ) → Result Held Broken → Type 0
TellsChecked s d bufs = Tells s d bufs (checked s (declaration_of d) bufs)

-- ---- well-formed buffers

-- the buffers are well-formed, and within the limit
abbrev pub IsWellFormedWithin : Shape → Declaration → List (List ℤ) → Type 0
IsWellFormedWithin s d bufs = IsWellFormed s d bufs × (size_in s d bufs ≤ limit)
