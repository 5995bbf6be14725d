-- A matrix: a shape, and its entries, which are not 0, in row-major order.
use Rattle.std.specs.Prelude.{◌≢◌, ℕ, ◌+◌, ◌*◌, ◌%◌, ◌^◌, ◌<◌, ◌≤◌, ◌==◌, nat_lt, List, [], ◌∷◌, ℤ, pos, if◌then◌else◌, FitsSigned}
use Rattle.std.specs.Int.{w64, cast_unsigned, cast_signed}
use Rattle.us_matrix.specs.declared.matrix.Triple.{Triple}
use Rattle.us_matrix.specs.Sums.{is_at}

-- what contracts see of a matrix
pub record Map : Type 0 where
  pub rows : ℕ
  pub cols : ℕ
  pub entries : List Triple

-- 1 to 2147483647
pub record IsSide (n : ℕ) : Type 0 where
  pub low : 1 ≤ n
  pub high : n < 2 ^ 31

-- the place of an entry in a row-major walk, where each row has 2^31 columns
abbrev pub place : Triple → ℕ
place t = 2147483648 * t.i + t.j

-- the entry lies in the shape and is not 0
pub record IsEntry (rows cols : ℕ) (t : Triple) : Type 0 where
  pub row : t.i < rows
  pub col : t.j < cols
  pub value : t.v ≢ pos 0
  pub fits : FitsSigned w64 t.v

-- the entries stand in row-major order from that place on, no two at one place
abbrev pub IsRisingFrom : ℕ → List Triple → Type 0
IsRisingFrom low [] = Unit {0}
IsRisingFrom low (t ∷ ts) = (low ≤ place t) × IsRisingFrom (place t + 1) ts

abbrev pub AreEntries : ℕ → ℕ → List Triple → Type 0
AreEntries rows cols [] = Unit {0}
AreEntries rows cols (t ∷ ts) = IsEntry rows cols t × AreEntries rows cols ts

-- what holds of each matrix
pub record IsMatrix (m : Map) : Type 0 where
  pub rows : IsSide m.rows
  pub cols : IsSide m.cols
  pub entries : AreEntries m.rows m.cols m.entries
  pub rising : IsRisingFrom 0 m.entries

-- the value at (i, j), 0 where there is no entry
abbrev pub value_at : List Triple → ℕ → ℕ → ℤ
value_at [] i j = pos 0
value_at (t ∷ ts) i j = if is_at i j t then t.v else value_at ts i j

-- the entries with one in front at this coordinate, unless its bits are 0
abbrev pub in_front : ℕ → ℕ → ℕ → List Triple → List Triple
in_front i j bits ts = if bits == 0 then ts else record { i = i; j = j; v = cast_signed w64 bits } ∷ ts

-- the row-major entries with a triple's value added at its coordinate modulo 2^64; a sum of 0 leaves no entry there
abbrev pub added : Triple → List Triple → List Triple
added t [] = in_front t.i t.j (cast_unsigned w64 t.v % 2 ^ 64) []
added t (e ∷ es) =
    if nat_lt (place t) (place e) then in_front t.i t.j (cast_unsigned w64 t.v % 2 ^ 64) (e ∷ es)
    else (if place t == place e then in_front e.i e.j ((cast_unsigned w64 t.v + cast_unsigned w64 e.v) % 2 ^ 64) es else e ∷ added t es)

unfoldable pub entries_of : List Triple → List Triple
entries_of [] = []
entries_of (t ∷ ts) = added t (entries_of ts)

-- the matrix of these triples
abbrev pub matrix_of : ℕ → ℕ → List Triple → Map
matrix_of rows cols ts = record { rows = rows; cols = cols; entries = entries_of ts }

-- the triple lies in the shape
pub record IsInShape (rows cols : ℕ) (t : Triple) : Type 0 where
  pub row : t.i < rows
  pub col : t.j < cols
