-- A program that copies a container of three buffers, on one matrix.
use Rattle.std.specs.Prelude.{ℕ, false, List, [], ◌∷◌, ℤ, pos, negsuc}
use Rattle.us_code.specs.declared.program.Dim.TheVariants as dim
use Rattle.us_code.specs.declared.program.Buf.TheVariants as buf
use Rattle.us_code.specs.declared.program.CellKind.TheVariants as kind
use Rattle.us_code.specs.declared.program.Make.{Make}
use Rattle.us_code.specs.Plain.{Reg, Number, Code, End, Load, Set, For, When, Of, ProgramTree}

-- the loop that copies a source
abbrev copy_loop : ℕ → Code → Code
copy_loop k rest = For 0 (dim.Len k) (Load 1 (buf.Source k) (Reg 0) (Set (buf.New k) (Reg 0) (Reg 1) End)) rest

-- a new buffer of words, as long as the source
abbrev as_long : ℕ → Make
as_long k = record { buf = k; len = dim.Len k; cell = kind.Word }

abbrev makes : List Make
makes = as_long 0 ∷ as_long 1 ∷ as_long 2 ∷ []

abbrev program_of : Code → ProgramTree
program_of body = record { sources = 3; phases = record { makes = makes; body = body; lines = [] } ∷ []; give = 0 ∷ 1 ∷ 2 ∷ [] }

abbrev pub sample : ProgramTree
sample = program_of (copy_loop 0 (copy_loop 1 (copy_loop 2 End)))

-- with a word as an index in the first loop
abbrev pub with_word_index : ProgramTree
with_word_index = program_of (For 0 (dim.Len 0) (Load 1 (buf.Source 0) (Reg 0) (Load 2 (buf.Source 1) (Reg 1) (Set (buf.New 0) (Reg 0) (Reg 1) End))) (copy_loop 1 (copy_loop 2 End)))

-- with a test around that line
abbrev pub with_when : ProgramTree
with_when = program_of (For 0 (dim.Len 0) (Load 1 (buf.Source 0) (Reg 0) (When (Reg 1) (dim.Len 1) 2 (Load 3 (buf.Source 1) (Reg 2) End) false End (Set (buf.New 0) (Reg 0) (Reg 1) End))) (copy_loop 1 (copy_loop 2 End)))

-- without the third loop
abbrev pub without_values : ProgramTree
without_values = program_of (copy_loop 0 (copy_loop 1 End))

-- one dim above the limit
abbrev pub large_dim : ProgramTree
large_dim = record { sources = 0; phases = record { makes = []; body = End; lines = Of 0 (Number 70000000) ∷ [] } ∷ []; give = [] }

-- the container of a matrix of 3 rows, with entries at (0, 0), (0, 2) and (2, 1)
abbrev pub rows : List ℤ
rows = pos 0 ∷ pos 2 ∷ pos 2 ∷ pos 3 ∷ []

abbrev pub columns : List ℤ
columns = pos 0 ∷ pos 2 ∷ pos 1 ∷ []

abbrev pub container : List (List ℤ)
container = rows ∷ columns ∷ (pos 5 ∷ pos 2 ∷ negsuc 6 ∷ []) ∷ []

abbrev pub zeros : List ℤ
zeros = pos 0 ∷ pos 0 ∷ pos 0 ∷ []
