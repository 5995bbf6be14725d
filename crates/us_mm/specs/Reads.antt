-- What a coordinate file says, or the first fault in it.
use Rattle.std.specs.Prelude.{ℕ, ◌+◌, ◌-◌, ◌^◌, min, ◌&&◌, not, Bool, true, false, List, [], ◌∷◌, length, take, drop, nat_lt, nat_le, ℤ, pos, flat_map, Result, Ok, Err, if◌then◌else◌, codes}
use Rattle.std.specs.Str.{str_eq_ignore_ascii_case}
use Rattle.us_matrix.specs.declared.matrix.Triple.{Triple}
use Rattle.us_matrix.specs.Map.{Map, matrix_of}
use Rattle.us_mm.specs.declared.fault.MmFault.{MmFault}
use Rattle.us_mm.specs.declared.fault.MmFault.TheVariants.{Header, Unsupported, SizeLine, Shape, TooManyEntries, EntryLine, OutOfShape, ValueRange, Triangle, Missing, Extra}
use Rattle.us_mm.specs.declared.form.Field.{Field}
use Rattle.us_mm.specs.declared.form.Field.TheVariants.{Integer, Pattern}
use Rattle.us_mm.specs.declared.form.Symmetry.{Symmetry}
use Rattle.us_mm.specs.declared.form.Symmetry.TheVariants.{General, Symmetric, SkewSymmetric}
use Rattle.us_mm.specs.declared.form.Form.{Form}
use Rattle.us_mm.specs.Forms.{allows, stores, stands_for}
use Rattle.us_mm_lines.specs.Lines.{lines, kept}
use Rattle.us_mm_lines.specs.Words.{words, is_size_word, size_of, is_value_word, value_of, is_value}

infixl 10 ◌>>=◌
abbrev pub ◌>>=◌ : {A B : Type 0} → Result A MmFault → (A → Result B MmFault) → Result B MmFault
(Ok x) >>= f = f x
(Err e) >>= f = Err e

-- what f makes of each, or its first fault
abbrev pub each : {A B : Type 0} → (A → Result B MmFault) → List A → Result (List B) MmFault
each f [] = Ok []
each f (x ∷ xs) = f x >>= λ y. each f xs >>= λ ys. Ok (y ∷ ys)

-- the fourth word and the fifth, in any case; a pattern has no negative values
abbrev pub field_of : List ℕ → Result Field MmFault
field_of word =
    if str_eq_ignore_ascii_case word (codes "integer") then Ok Integer
    else (if str_eq_ignore_ascii_case word (codes "pattern") then Ok Pattern else Err (Unsupported 4))

abbrev pub has_signs : Field → Bool
has_signs Integer = true
has_signs Pattern = false

abbrev pub symmetry_of : Field → List ℕ → Result Symmetry MmFault
symmetry_of field word =
    if str_eq_ignore_ascii_case word (codes "general") then Ok General
    else (if str_eq_ignore_ascii_case word (codes "symmetric") then Ok Symmetric
    else (if str_eq_ignore_ascii_case word (codes "skew-symmetric") && has_signs field then Ok SkewSymmetric else Err (Unsupported 5)))

abbrev pub form_of : List ℕ → List ℕ → Result Form MmFault
form_of field symmetry = field_of field >>= λ f. symmetry_of f symmetry >>= λ s. Ok (record { field = f; symmetry = s })

-- the first line: five words, in any case
abbrev pub header_words : List (List ℕ) → Result Form MmFault
header_words (banner ∷ object ∷ format ∷ field ∷ symmetry ∷ []) =
    if not (str_eq_ignore_ascii_case banner (codes "%%MatrixMarket")) then Err Header
    else (if not (str_eq_ignore_ascii_case object (codes "matrix")) then Err (Unsupported 2)
    else (if not (str_eq_ignore_ascii_case format (codes "coordinate")) then Err (Unsupported 3) else form_of field symmetry))
header_words _ = Err Header

unfoldable pub header_of : List ℕ → Result Form MmFault
header_of line = header_words (words line)

-- the form that the header says, and the size line: rows, columns and the number of entry lines
pub record Sizes : Type 0 where
  pub form : Form
  pub rows : ℕ
  pub cols : ℕ
  pub count : ℕ

abbrev pub is_side : ℕ → Bool
is_side n = nat_le 1 n && nat_le n 2147483647

abbrev pub size_numbers : Form → ℕ → ℕ → ℕ → ℕ → Result Sizes MmFault
size_numbers form line m n l =
    if not (is_side m && is_side n && allows form.symmetry m n) then Err (Shape line)
    else (if nat_lt 8388608 l then Err (TooManyEntries (min l (2 ^ 64 - 1)))
    else Ok (record { form = form; rows = m; cols = n; count = l }))

abbrev pub size_words : Form → ℕ → List (List ℕ) → Result Sizes MmFault
size_words form line (m ∷ n ∷ l ∷ []) =
    if is_size_word m && is_size_word n && is_size_word l then size_numbers form line (size_of m) (size_of n) (size_of l) else Err (SizeLine line)
size_words form line _ = Err (SizeLine line)

unfoldable pub sizes_of : Form → ℕ × List ℕ → Result Sizes MmFault
sizes_of form line = size_words form line.0 (words line.1)

-- an entry line: row, column and value, rows and columns from 1
abbrev pub entry_numbers : Symmetry → ℕ → ℕ → ℕ → ℕ → ℕ → ℤ → Result Triple MmFault
entry_numbers symmetry line rows cols r c v =
    if not (nat_le 1 r && nat_le r rows && (nat_le 1 c && nat_le c cols)) then Err (OutOfShape line)
    else (if not (is_value v) then Err (ValueRange line)
    else (if not (stores symmetry r c) then Err (Triangle line)
    else Ok (record { i = r - 1; j = c - 1; v = v })))

abbrev pub integer_words : Symmetry → ℕ → ℕ → ℕ → List (List ℕ) → Result Triple MmFault
integer_words symmetry line rows cols (r ∷ c ∷ v ∷ []) =
    if is_size_word r && is_size_word c && is_value_word v then entry_numbers symmetry line rows cols (size_of r) (size_of c) (value_of v)
    else Err (EntryLine line)
integer_words _ line _ _ _ = Err (EntryLine line)

-- the same without a value, which is 1
abbrev pub pattern_words : Symmetry → ℕ → ℕ → ℕ → List (List ℕ) → Result Triple MmFault
pattern_words symmetry line rows cols (r ∷ c ∷ []) =
    if is_size_word r && is_size_word c then entry_numbers symmetry line rows cols (size_of r) (size_of c) (pos 1) else Err (EntryLine line)
pattern_words _ line _ _ _ = Err (EntryLine line)

abbrev pub entry_words : Field → Symmetry → ℕ → ℕ → ℕ → List (List ℕ) → Result Triple MmFault
entry_words Integer = integer_words
entry_words Pattern = pattern_words

unfoldable pub entry_of : Sizes → ℕ × List ℕ → Result Triple MmFault
entry_of s line = entry_words s.form.field s.form.symmetry line.0 s.rows s.cols (words line.1)

-- the lines behind the wanted ones
abbrev pub no_more : {A : Type 0} → List (ℕ × List ℕ) → A → Result A MmFault
no_more [] x = Ok x
no_more (line ∷ more) x = Err (Extra line.0)

-- what f makes of the lines, of which so many are wanted
unfoldable pub wanted : {A : Type 0} → (ℕ × List ℕ → Result A MmFault) → ℕ → List (ℕ × List ℕ) → Result (List A) MmFault
wanted f count ls = do
  xs ← each f (take count ls)
  if nat_lt (length ls) count then Err (Missing (length ls) count) else no_more (drop count ls) xs

-- the triples that the entry lines stand for
unfoldable pub read_entries : List (ℕ × List ℕ) → Sizes → Result (List Triple) MmFault
read_entries ls s = wanted (entry_of s) s.count ls >>= λ ts. Ok (flat_map (stands_for s.form.symmetry) ts)

-- what was read: the shape, and the triples
pub record Reading : Type 0 where
  pub rows : ℕ
  pub cols : ℕ
  pub triples : List Triple

-- the lines behind the header, of a file whose last line has that number
abbrev pub read_sized : Form → ℕ → List (ℕ × List ℕ) → Result Reading MmFault
read_sized form last [] = Err (SizeLine (last + 1))
read_sized form last (line ∷ more) = do
  s ← sizes_of form line
  ts ← read_entries more s
  Ok (record { rows = s.rows; cols = s.cols; triples = ts })

abbrev pub read_lines : List (List ℕ) → Result Reading MmFault
read_lines [] = Err Header
read_lines (first ∷ body) = header_of first >>= λ form. read_sized form (length body + 1) (kept 2 body)

unfoldable pub reading_of : List ℕ → Result Reading MmFault
reading_of bytes = read_lines (lines bytes)

-- the matrix of a file, with the sum of the values at each coordinate, or the first fault of the file
abbrev pub matrix_in : List ℕ → Result Map MmFault
matrix_in bytes = reading_of bytes >>= λ r. Ok (matrix_of r.rows r.cols r.triples)
