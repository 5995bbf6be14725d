-- Values that were read as what they stand for.
use Rattle.std.specs.Prelude.{ℕ, ◌≤◌, ◌⊎◌, List, length, map, Result, Ok, Err}
use Rattle.std.specs.declared.alloc.Global.{Global}
use Rattle.std.specs.declared.vec.Vec.{Vec}
use denote.Ref.{Bor}
use Rattle.us_decl.specs.declared.decl.Decl.{Decl}
use Rattle.us_decl.specs.declared.library.Library.{Library}
use Rattle.us_decl.specs.Declares.{Declared}
use Rattle.us_decl.specs.Views.{decl_view}
use Rattle.us_status.specs.declared.status.Status.{Status}
use Rattle.us_mm.specs.declared.reader.CoordinateReader.{CoordinateReader}
use Rattle.us_mm.specs.Readers.{Stands, IsOut}
use Rattle.us_format.specs.Program.{shape_in, entries_in}
use Rattle.us_check.specs.declared.held.Held.{Held}
use Rattle.us_container.specs.Contained.{Contained}
use Rattle.us_inputs.specs.Steps.{Input, OfFile, OfContainer}
use Rattle.us_inputs.specs.declared.input.Input as inputs
use Rattle.us_inputs.specs.declared.input.Input.TheVariants.{File, Container}

-- the declarations of a library that was read
abbrev pub declarations_of : Result Library Status → Result (List Declared) Status
declarations_of (Ok library) = Ok (map decl_view library)
declarations_of (Err status) = Err status

-- the bytes of a file that was loaded
abbrev pub bytes_of : Result (Vec ℕ Global) Status → Result (List ℕ) Status
bytes_of (Ok bytes) = Ok bytes.items
bytes_of (Err status) = Err status

-- a reader has read a file that isn't too long, to its end, unless memory ran out
abbrev pub HasRead : List ℕ → CoordinateReader → Type 0
HasRead bytes reader = (length bytes ≤ 1073741824) × (IsOut reader ⊎ Stands reader bytes)

-- a held matrix as what its container holds
abbrev pub contained_of : Held → Contained
contained_of h = record { declared = h.declared; shape = shape_in h.matrix; buffers = h.buffers; entries = entries_in h.matrix }

abbrev pub input_view : inputs.Input → Input
input_view (File m) = OfFile m
input_view (Container h) = OfContainer (contained_of h)

-- the input that was read
abbrev pub input_of : Result inputs.Input Status → Result Input Status
input_of (Ok input) = Ok (input_view input)
input_of (Err status) = Err status

-- the declarations that were found
abbrev pub found_of : Result (Vec (Bor Decl) Global) Status → Result (List Declared) Status
found_of (Ok found) = Ok (map (λ d. decl_view d.now) found.items)
found_of (Err status) = Err status

-- the formats of a chain
abbrev pub formats_of : Result (Vec Declared Global) Status → Result (List Declared) Status
formats_of (Ok formats) = Ok formats.items
formats_of (Err status) = Err status

-- what the sources are
abbrev pub source_of : Result Held Status → Result Contained Status
source_of (Ok h) = Ok (contained_of h)
source_of (Err status) = Err status
