-- What an operand file says, or the first fault in it.
use Rattle.std.specs.Prelude.{ℕ, ◌+◌, ◌*◌, ◌&&◌, not, List, [], ◌∷◌, length, nat_lt, ℤ, Result, Ok, Err, if◌then◌else◌, codes}
use Rattle.std.specs.Str.{str_eq_ignore_ascii_case}
use Rattle.us_matrix.specs.declared.shape.Shape.{Shape}
use Rattle.us_matrix.specs.Grid.{Grid}
use Rattle.us_mm.specs.declared.fault.MmFault.{MmFault}
use Rattle.us_mm.specs.declared.fault.MmFault.TheVariants.{Header, Unsupported, SizeLine, TooManyEntries, EntryLine, ValueRange}
use Rattle.us_mm.specs.declared.fault.MmFault.TheVariants as fault
use Rattle.us_mm_lines.specs.Lines.{lines, kept}
use Rattle.us_mm_lines.specs.Words.{words, is_size_word, size_of, is_value_word, value_of, is_value}
use Rattle.us_mm.specs.Reads.{◌>>=◌, is_side, wanted}

-- the first line: five words, in any case
abbrev pub array_words : List (List ℕ) → Result (Unit {0}) MmFault
array_words (banner ∷ object ∷ format ∷ field ∷ symmetry ∷ []) =
    if not (str_eq_ignore_ascii_case banner (codes "%%MatrixMarket")) then Err Header
    else (if not (str_eq_ignore_ascii_case object (codes "matrix")) then Err (Unsupported 2)
    else (if not (str_eq_ignore_ascii_case format (codes "array")) then Err (Unsupported 3)
    else (if not (str_eq_ignore_ascii_case field (codes "integer")) then Err (Unsupported 4)
    else (if not (str_eq_ignore_ascii_case symmetry (codes "general")) then Err (Unsupported 5)
    else Ok tt))))
array_words _ = Err Header

unfoldable pub array_header_of : List ℕ → Result (Unit {0}) MmFault
array_header_of line = array_words (words line)

-- the size line: rows and columns
abbrev pub side_numbers : ℕ → ℕ → ℕ → Result Shape MmFault
side_numbers line m n =
    if not (is_side m && is_side n) then Err (fault.Shape line)
    else (if nat_lt 33554432 (m * n) then Err (TooManyEntries (m * n))
    else Ok (record { rows = m; cols = n }))

abbrev pub side_words : ℕ → List (List ℕ) → Result Shape MmFault
side_words line (m ∷ n ∷ []) = if is_size_word m && is_size_word n then side_numbers line (size_of m) (size_of n) else Err (SizeLine line)
side_words line _ = Err (SizeLine line)

unfoldable pub sides_of : ℕ × List ℕ → Result Shape MmFault
sides_of line = side_words line.0 (words line.1)

-- a line with one value
abbrev pub value_number : ℕ → ℤ → Result ℤ MmFault
value_number line v = if is_value v then Ok v else Err (ValueRange line)

abbrev pub value_words : ℕ → List (List ℕ) → Result ℤ MmFault
value_words line (v ∷ []) = if is_value_word v then value_number line (value_of v) else Err (EntryLine line)
value_words line _ = Err (EntryLine line)

unfoldable pub value_in : ℕ × List ℕ → Result ℤ MmFault
value_in line = value_words line.0 (words line.1)

-- the lines behind the header, of a file whose last line has that number; the values stand column after column
abbrev pub array_sized : ℕ → List (ℕ × List ℕ) → Result Grid MmFault
array_sized last [] = Err (SizeLine (last + 1))
array_sized last (line ∷ more) = do
  s ← sides_of line
  vs ← wanted value_in (s.rows * s.cols) more
  Ok (record { rows = s.rows; cols = s.cols; cells = vs })

abbrev pub array_lines : List (List ℕ) → Result Grid MmFault
array_lines [] = Err Header
array_lines (first ∷ body) = array_header_of first >>= λ _. array_sized (length body + 1) (kept 2 body)

-- the dense matrix of an operand file, or the first fault of the file
unfoldable pub array_in : List ℕ → Result Grid MmFault
array_in bytes = array_lines (lines bytes)
