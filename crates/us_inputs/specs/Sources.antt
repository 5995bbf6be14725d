-- What a matrix is held in: its format and the buffers of it.
use Rattle.std.specs.Prelude.{ℕ, ℤ, List, nat_le, if◌then◌else◌, Result, Ok, Err}
use Rattle.us_format.specs.Reading.{limit}
use Rattle.us_decl.specs.Declares.{Declared}
use Rattle.us_judge.specs.Entry.{entry_format}
use Rattle.us_judge.specs.Views.{declaration_of}
use Rattle.us_container.specs.Contained.{Contained}
use Rattle.us_status.specs.declared.status.Status.{Status}
use Rattle.us_status.specs.declared.status.Status.TheVariants.{TooLarge}
use Rattle.us_status.specs.declared.status.Slot.TheVariants as slots
use Rattle.us_inputs.specs.Steps.{Input, OfFile, OfContainer, input_at, size_on}
use Rattle.us_status.specs.Answers.{then_step}
use Rattle.us_matrix.specs.Map.{Map}
use Rattle.us_format.specs.Program.{shape_in, entries_in}
use Rattle.us_format.specs.Buffers.{buffers}

-- the buffers of a format on a matrix
abbrev pub buffers_on : Map → Declared → List (List ℤ)
buffers_on m d = buffers (shape_in m) (declaration_of d) (entries_in m)

-- what the container of a matrix in a format holds: the format, the matrix, and exactly the format's buffers of it
abbrev pub kept_in : Map → Declared → Contained
kept_in m d = record { declared = d; shape = shape_in m; buffers = buffers_on m d; entries = entries_in m }

-- a matrix file is held in the built-in format, which is within the limit
abbrev pub held_step : Input → Result Contained Status
held_step (OfFile m) = if nat_le (size_on m entry_format) limit then Ok (kept_in m entry_format) else Err (TooLarge 0)
held_step (OfContainer c) = Ok c

-- what the container of a file holds, or of a matrix file
abbrev pub source_at : List ℕ → Result Contained Status
source_at bytes = then_step (input_at slots.Input bytes) held_step

-- how an input is held: a matrix file in the built-in format, a container in its own
abbrev pub held_as : Input → Contained
held_as (OfFile m) = kept_in m entry_format
held_as (OfContainer c) = c
