-- What `spmv` and `spmm` start from: the formats of a chain, an input, and a dense operand.
use Rattle.std.specs.Prelude.{◌≡◌, ℕ, ◌+◌, ◌*◌, Bool, true, false, List, [], ◌∷◌, ◌++◌, length, nat_eq, nat_le, if◌then◌else◌, Result, Ok, Err}
use Rattle.us_matrix.specs.Map.{Map}
use Rattle.us_matrix.specs.Grid.{Grid}
use Rattle.us_mm.specs.declared.fault.MmFault.{MmFault}
use Rattle.us_mm.specs.Arrays.{array_in}
use Rattle.us_decl.specs.Declares.{Declared}
use Rattle.us_outside.specs.Files.{Files, content_of}
use Rattle.us_status.specs.declared.status.Slot.{Slot}
use Rattle.us_status.specs.declared.status.Slot.TheVariants as slots
use Rattle.us_status.specs.declared.status.Status.{Status}
use Rattle.us_status.specs.declared.status.Status.TheVariants.{Matrix, Operand, TooLarge}
use Rattle.us_status.specs.Answers.{behind, then_step}
use Rattle.us_inputs.specs.Steps.{Input, chain_in, input_at, map_of, of_file, within_limit}

-- the dense matrix of an operand file
abbrev pub operand_step : Result Grid MmFault → Result Grid Status
operand_step (Ok x) = Ok x
operand_step (Err fault) = Err (Matrix slots.Operand fault)

-- reading the operand in a file
abbrev pub operand_at : List ℕ → Result Grid Status
operand_at bytes = of_file slots.Operand bytes (operand_step (array_in bytes))

-- ---- sides and sizes

-- the operand has as many rows as the matrix has columns
abbrev pub right_rows : ℕ → ℕ → Result (Unit {0}) Status
right_rows have want = if nat_eq have want then Ok tt else Err (Operand false have want)

-- a vector has one column
abbrev pub right_columns : Bool → ℕ → Result (Unit {0}) Status
right_columns false have = Ok tt
right_columns true have = if nat_eq have 1 then Ok tt else Err (Operand true have 1)

-- the rows come first
abbrev pub sides_step : Bool → ℕ → Grid → Result (Unit {0}) Status
sides_step vector cols x = then_step (right_rows x.rows cols) (λ _. right_columns vector x.cols)

-- the cells of a product are within their limit; behind n formats it is number n + 1
abbrev pub few_cells : ℕ → ℕ → Result (Unit {0}) Status
few_cells n cells = if nat_le cells 33554432 then Ok tt else Err (TooLarge (n + 1))

-- all formats are within the limit, and then the product is
abbrev pub sizes_step : Map → List Declared → Grid → Result (Unit {0}) Status
sizes_step m ds x = then_step (within_limit m 1 ds) (λ _. few_cells (length ds) (m.rows * x.cols))

-- the sides are compared, then all sizes are tested
abbrev pub product_step : Bool → Map → List Declared → Grid → Result (Unit {0}) Status
product_step vector m ds x = then_step (sides_step vector m.cols x) (λ _. sizes_step m ds x)

-- ---- all steps

-- the formats of a chain, the input and the operand
pub record Factors : Type 0 where
  pub formats : List Declared
  pub input : Input
  pub operand : Grid

abbrev pub fit_step : Bool → List Declared → Input → Grid → Result Factors Status
fit_step vector ds i x = then_step (product_step vector (map_of i) ds x) (λ _. Ok (record { formats = ds; input = i; operand = x }))

-- the steps before a product with these files: the formats are found and judged, then the input is read, then the operand, then its sides are compared,
-- then all sizes are tested
unfoldable pub factors_in : Bool → List ℕ → List ℕ → List ℕ → List ℕ → Files → Result Factors Status
factors_in vector formats input chain operand fs =
    then_step (chain_in (content_of fs formats) chain)
    (λ ds. then_step (input_at slots.Input (content_of fs input)) (λ i. then_step (operand_at (content_of fs operand)) (fit_step vector ds i)))

-- the files that a product reads: the operand behind an input that was read
abbrev pub to_read : List ℕ → List ℕ → List ℕ → Files → List Slot
to_read formats input chain fs =
    slots.Formats
    ∷ (behind (chain_in (content_of fs formats) chain) slots.Input
    ++ behind (then_step (chain_in (content_of fs formats) chain) (λ ds. input_at slots.Input (content_of fs input))) slots.Operand)

-- the factors are those of the files
pub record AreOfFiles (vector : Bool) (formats input chain operand : List ℕ) (c : Factors) (fs : Files) : Type 0 where
  pub found : chain_in (content_of fs formats) chain ≡ Ok c.formats
  pub read : input_at slots.Input (content_of fs input) ≡ Ok c.input
  pub operand_read : operand_at (content_of fs operand) ≡ Ok c.operand
  pub steps : factors_in vector formats input chain operand fs ≡ Ok c
