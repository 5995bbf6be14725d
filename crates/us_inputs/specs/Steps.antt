-- The steps of commands: each gives a value, or ends the command with an answer.
use Rattle.std.specs.Prelude.{ℕ, suc, Bool, List, [], ◌∷◌, map, length, take, nat_lt, nat_le, Option, Some, None, Result, Ok, Err, if◌then◌else◌}
use Rattle.std.specs.Str.{bytes_eq}
use Rattle.us_matrix.specs.Map.{Map}
use Rattle.us_matrix.specs.declared.matrix.Triple.{Triple}
use Rattle.us_mm.specs.declared.fault.MmFault.{MmFault}
use Rattle.us_mm.specs.Reads.{matrix_in}
use Rattle.us_format.specs.Matrix.{Entry}
use Rattle.us_format.specs.Program.{shape_in, entries_in}
use Rattle.us_format.specs.Buffers.{size}
use Rattle.us_format.specs.Reading.{limit}
use Rattle.us_decl.specs.Declares.{Declared}
use Rattle.us_decl.specs.Names.{same_name}
use Rattle.us_parse.specs.declared.parsed.DeclFault.{DeclFault}
use Rattle.us_judge.specs.declared.refusal.Refusal.{Refusal}
use Rattle.us_judge.specs.Acceptance.{first_refusal}
use Rattle.us_judge.specs.Entry.{entry_format}
use Rattle.us_judge.specs.Views.{declaration_of}
use Rattle.us_container.specs.declared.fault.ContainerFault.{ContainerFault}
use Rattle.us_container.specs.Bytes.{magic}
use Rattle.us_container.specs.Contained.{Contained, contained_in}
use Rattle.us_status.specs.declared.status.Slot.{Slot}
use Rattle.us_status.specs.declared.status.Slot.TheVariants.{Formats}
use Rattle.us_status.specs.declared.status.Status.{Status}
use Rattle.us_status.specs.declared.status.Status.TheVariants.{Matrix, TooLong, UnknownName, Refused, Container, TooLarge}
use Rattle.us_status.specs.declared.status.Status.TheVariants as status
use Rattle.us_inputs.specs.Chains.{hops_of}
use Rattle.us_inputs.specs.Library.{library_in}
use Rattle.us_status.specs.Answers.{then_step}

-- what reading a file gives, unless it is too long
unfoldable pub of_file : {A : Type 0} → Slot → List ℕ → Result A Status → Result A Status
of_file slot bytes read = if nat_lt 1073741824 (length bytes) then Err (TooLong slot) else read

-- the bytes of a file
abbrev pub bytes_at : Slot → List ℕ → Result (List ℕ) Status
bytes_at slot bytes = of_file slot bytes (Ok bytes)

-- a matrix file or a container
pub data Input : Type 0 where
  OfFile : Map → Input
  OfContainer : Contained → Input

abbrev pub triple_of : Entry → Triple
triple_of e = record { i = e.i; j = e.j; v = e.v }

-- the matrix of an input
abbrev pub map_of : Input → Map
map_of (OfFile m) = m
map_of (OfContainer c) = record { rows = c.shape.rows; cols = c.shape.cols; entries = map triple_of c.entries }

-- the size of a format on a matrix
abbrev pub size_on : Map → Declared → ℕ
size_on m d = size (shape_in m) (declaration_of d) (entries_in m)

-- the matrix of a file is held in the built-in format, whose size on it has to be within the limit
unfoldable pub held_in_entry : Map → Result Input Status
held_in_entry m = if nat_le (size_on m entry_format) limit then Ok (OfFile m) else Err (TooLarge 0)

abbrev pub matrix_step : Slot → Result Map MmFault → Result Input Status
matrix_step slot (Ok m) = held_in_entry m
matrix_step slot (Err fault) = Err (Matrix slot fault)

abbrev pub container_step : Result Contained ContainerFault → Result Input Status
container_step (Ok c) = Ok (OfContainer c)
container_step (Err fault) = Err (Container fault)

-- a file that begins with the seven bytes of a container is one, any other is a matrix file
abbrev pub is_container : List ℕ → Bool
is_container bytes = bytes_eq (take 7 bytes) magic

abbrev pub read_input : Slot → List ℕ → Result Input Status
read_input slot bytes = if is_container bytes then container_step (contained_in bytes) else matrix_step slot (matrix_in bytes)

-- reading the input in a file
abbrev pub input_at : Slot → List ℕ → Result Input Status
input_at slot bytes = of_file slot bytes (read_input slot bytes)

abbrev pub library_step : Result (List Declared) DeclFault → Result (List Declared) Status
library_step (Ok ds) = Ok ds
library_step (Err fault) = Err (status.Formats fault)

-- reading the library of a file
abbrev pub library_at : Slot → List ℕ → Result (List Declared) Status
library_at slot bytes = of_file slot bytes (library_step (library_in bytes))

-- the declaration of a name
abbrev pub find : List ℕ → List Declared → Option Declared
find name [] = None
find name (d ∷ ds) = if same_name name d.name then Some d else find name ds

abbrev pub found : ℕ → Option Declared → Result Declared Status
found k (Some d) = Ok d
found k None = Err (UnknownName k)

-- the declarations of the names, the first of which is the k-th
abbrev pub find_all : List Declared → ℕ → List (List ℕ) → Result (List Declared) Status
find_all ds k [] = Ok []
find_all ds k (name ∷ names) = then_step (found k (find name ds)) (λ d. then_step (find_all ds (suc k) names) (λ more. Ok (d ∷ more)))

-- a declaration that no rule refuses
abbrev pub judged : ℕ → Option Refusal → Result (Unit {0}) Status
judged k None = Ok tt
judged k (Some why) = Err (Refused k why)

-- all declarations are accepted, the first of which is the k-th
abbrev pub judge_all : ℕ → List Declared → Result (Unit {0}) Status
judge_all k [] = Ok tt
judge_all k (d ∷ ds) = then_step (judged k (first_refusal (declaration_of d))) (λ _. judge_all (suc k) ds)

-- the declarations as formats
abbrev pub judged_all : List Declared → Result (List Declared) Status
judged_all ds = then_step (judge_all 1 ds) (λ _. Ok ds)

-- the formats of names, by a library
abbrev pub formats_in : List Declared → List (List ℕ) → Result (List Declared) Status
formats_in ds names = then_step (find_all ds 1 names) judged_all

-- the formats of names, by the library in a file: the library is read, then all names are found, then all are judged
abbrev pub named_in : List ℕ → List (List ℕ) → Result (List Declared) Status
named_in bytes names = then_step (library_at Formats bytes) (λ ds. formats_in ds names)

-- the formats of a chain
abbrev pub chain_in : List ℕ → List ℕ → Result (List Declared) Status
chain_in bytes chain = named_in bytes (hops_of chain)

-- each format is within the limit, the first of which is the k-th
abbrev pub within_limit : Map → ℕ → List Declared → Result (Unit {0}) Status
within_limit m k [] = Ok tt
within_limit m k (d ∷ ds) = if nat_le (size_on m d) limit then within_limit m (suc k) ds else Err (TooLarge k)
