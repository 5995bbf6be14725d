-- Units of a dense product: the line `dense R K`, and behind it a program whose one given buffer is the product, column after column.
use Rattle.std.specs.Prelude.{◌≡◌, ◌<◌, ◌^◌, ℕ, List, ◌++◌, codes, Ok}
use Rattle.std.specs.Fmt.{decimal}
use Rattle.us_code.specs.Limits.{KeepsLimits}
use Rattle.us_code.specs.Plain.{ProgramTree}
use Rattle.us_code_print.specs.Canon.{code_text, newline}
use Rattle.us_code_print.specs.ReadBack.{IsNamed}
use Rattle.us_code_reader.specs.Parses.{answer_on}
use Rattle.us_unit.specs.Units.{program_told}

-- what such a unit holds: the rows and columns of the product, and the program
pub record DenseUnit : Type 0 where
  pub rows : ℕ
  pub cols : ℕ
  pub program : ProgramTree

-- ---- the canonical text

-- the line of the rows and columns, with its end
abbrev pub dense_line : ℕ → ℕ → List ℕ
dense_line rows cols = codes "dense " ++ (decimal rows ++ (codes " " ++ (decimal cols ++ newline)))

-- the line, and behind it the canonical text of the program
abbrev pub dense_text : DenseUnit → List ℕ
dense_text u = dense_line u.rows u.cols ++ code_text u.program

-- numbers of 32 bits, and a program that keeps the limits of text
pub record IsDense (u : DenseUnit) : Type 0 where
  pub rows : u.rows < 2 ^ 32
  pub cols : u.cols < 2 ^ 32
  pub limits : KeepsLimits u.program
  pub named : IsNamed u.program

-- ---- reading

-- the bytes are the line of these rows and columns, numbers of 32 bits, and behind it this program, in any spelling; behind that there are but
-- blanks and comments
pub record IsDenseUnit (u : DenseUnit) (bytes : List ℕ) : Type 0 where
  pub behind : List ℕ
  pub line : bytes ≡ dense_line u.rows u.cols ++ behind
  pub rows : u.rows < 2 ^ 32
  pub cols : u.cols < 2 ^ 32
  pub program : program_told behind (answer_on behind) ≡ Ok u.program
