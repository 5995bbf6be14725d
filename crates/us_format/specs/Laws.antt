-- Laws of the definitions.
use Rattle.std.specs.Prelude.{ℕ, ◌+◌, ◌<◌, ◌≤◌, List, [], map, length, take, Bool, true, IsTrue, ◌≡◌, Some, Ok, Contains, All}
use Rattle.std.specs.List.{filter, sum_by, sum}
use Rattle.us_expr.specs.Tree.{Tree, Number, Variable, Sum, Difference, Quotient, Remainder}
use Rattle.us_format.specs.Lists.{lower}
use Rattle.us_format.specs.Matrix.{Shape, Entry, IsMatrixOf}
use Rattle.us_format.specs.Declaration.{Query, Reorder, Schedule, Part, Declaration, axis_of, index_of, has_extent, has_table}
use Rattle.us_format.specs.Known.{expressions, is_known}
use Rattle.us_format.specs.Queries.{extents_of}
use Rattle.us_format.specs.Coordinates.{coordinates}
use Rattle.us_format.specs.Kinds.{levels_of}
use Rattle.us_format.specs.Positions.{row_of, rows_of, last_place}
use Rattle.us_format.specs.Packs.{Buffer, written, pieces, packed}
use Rattle.us_format.specs.Buffers.{extent_buffer, table_buffer, piece_buffers, parts_of, part_counts, all_buffers, buffers, size}
use Rattle.us_format.specs.Reading.{Contents, limit, total_count, fits, size_in}
use Rattle.us_format.specs.Meaning.{part_meaning, collected, meaning}
use Rattle.us_format.specs.Recover.{Found, plan_of, recover, recovered}
use Rattle.us_format.specs.Rules.{IsLawful, ArePacksLawful, IsLawfulDeclaration}

-- ---- meaning

-- what the buffers of a part hold for a matrix
abbrev pub contents_of : Shape → Part → List Entry → Contents
contents_of s p m = record { extents = extents_of m s p; tables = map (λ q. written (table_buffer m s q)) p.queries; cells = map written (piece_buffers s p m) }

-- the meaning of what a lawful part holds for a matrix is the matrix
abbrev pub MeaningIsMatrix : Type 0
MeaningIsMatrix = (s : Shape) (p : Part) (m : List Entry) → IsLawful p → IsMatrixOf s m → part_meaning s p (contents_of s p m) ≡ Some m

-- ---- whole declarations

-- each extent of each part on its entries is at most the limit
pub record AreExtentsSmall (s : Shape) (d : Declaration) (m : List Entry) : Type 0 where
  pub small : All (λ x. All (λ n. n ≤ limit) (extents_of x.1 s x.0)) (parts_of s d m)

-- a declaration has as many buffers as its parts say
abbrev pub BuffersAreCounted : Type 0
BuffersAreCounted = (s : Shape) (d : Declaration) (m : List Entry) → IsLawfulDeclaration d → length (all_buffers s (parts_of s d m)) ≡ total_count d

-- the lengths of the buffers of a matrix fit
abbrev pub BuffersFit : Type 0
BuffersFit = (s : Shape) (d : Declaration) (m : List Entry) → IsLawfulDeclaration d → IsMatrixOf s m → AreExtentsSmall s d m → fits s d (buffers s d m) ≡ true

-- the entries that the buffers of a matrix hold are the matrix; where its extents are small, the matrix is their meaning
pub record MeaningOfBuffers (s : Shape) (d : Declaration) (m : List Entry) : Type 0 where
  pub entries : collected s d (buffers s d m) ≡ Ok m
  pub meant : AreExtentsSmall s d m → meaning s d (buffers s d m) ≡ Some m

-- it holds for lawful declarations and matrices of the shape
abbrev pub BuffersMeanMatrix : Type 0
BuffersMeanMatrix = (s : Shape) (d : Declaration) (m : List Entry) → IsLawfulDeclaration d → IsMatrixOf s m → MeaningOfBuffers s d m

-- two matrices of one shape with the same buffers are one
abbrev pub OneMatrixByBuffers : Type 0
OneMatrixByBuffers = (s : Shape) (d : Declaration) (m n : List Entry) → IsLawfulDeclaration d → IsMatrixOf s m → IsMatrixOf s n → buffers s d m ≡ buffers s d n → m ≡ n

-- ---- positions

-- the position of an entry after all levels of a part
abbrev pub position_of : Shape → Part → List Entry → Entry → ℕ
position_of s p m x = last_place (levels_of s (extents_of m s p) p) (rows_of m s p) (row_of m s p x)

-- entries with one list of coordinates are one, and an entry with the lower list has the lower position
pub record PositionsAscend : Type 0 where
  pub apart : (s : Shape) (p : Part) (m : List Entry) → IsLawful p → IsMatrixOf s m → (x y : Entry) → Contains m x → Contains m y
      → coordinates m s p x ≡ coordinates m s p y → x ≡ y
  pub ascending : (s : Shape) (p : Part) (m : List Entry) → IsLawful p → IsMatrixOf s m → (x y : Entry) → Contains m x → Contains m y
      → IsTrue (lower (coordinates m s p x) (coordinates m s p y)) → position_of s p m x < position_of s p m y

-- ---- known expressions

-- a test holds of the constants of a list and is closed under the rules by which expressions get known, as far as they lead into the list
pub record IsClosed (es : List Tree) (queries : List Query) (holds : Tree → Bool) : Type 0 where
  pub number : (c : ℕ) → Contains es (Number c) → IsTrue (holds (Number c))
  -- a sum and one term give the other term
  pub left_of_sum : (a b : Tree) → Contains es a → IsTrue (holds (Sum a b)) → IsTrue (holds b) → IsTrue (holds a)
  pub right_of_sum : (a b : Tree) → Contains es b → IsTrue (holds (Sum a b)) → IsTrue (holds a) → IsTrue (holds b)
  -- a difference and one operand give the other operand
  pub left_of_difference : (a b : Tree) → Contains es a → IsTrue (holds (Difference a b)) → IsTrue (holds b) → IsTrue (holds a)
  pub right_of_difference : (a b : Tree) → Contains es b → IsTrue (holds (Difference a b)) → IsTrue (holds a) → IsTrue (holds b)
  -- a quotient and a remainder by one number give the operand
  pub joined : (a : Tree) (k : ℕ) → Contains es a → IsTrue (holds (Quotient a k)) → IsTrue (holds (Remainder a k)) → IsTrue (holds a)
  -- the operands give the whole
  pub sum : (a b : Tree) → Contains es (Sum a b) → IsTrue (holds a) → IsTrue (holds b) → IsTrue (holds (Sum a b))
  pub difference : (a b : Tree) → Contains es (Difference a b) → IsTrue (holds a) → IsTrue (holds b) → IsTrue (holds (Difference a b))
  pub quotient : (a : Tree) (k : ℕ) → Contains es (Quotient a k) → IsTrue (holds a) → IsTrue (holds (Quotient a k))
  pub remainder : (a : Tree) (k : ℕ) → Contains es (Remainder a k) → IsTrue (holds a) → IsTrue (holds (Remainder a k))
  -- a reorder variable gives its index, lane and slot of one schedule give its index
  pub order : (v : ℕ) (t : Tree) → Contains queries (Reorder v t) → Contains es (index_of (axis_of t)) → IsTrue (holds (Variable v)) → IsTrue (holds (index_of (axis_of t)))
  pub rows : (l u : ℕ) (t : Tree) (n : ℕ) → Contains queries (Schedule l u t n) → Contains es (index_of (axis_of t)) → IsTrue (holds (Variable l)) → IsTrue (holds (Variable u))
      → IsTrue (holds (index_of (axis_of t)))

-- the known expressions are the least of the part's expressions that have the first `count` levels and the constants and are closed under the rules
pub record KnownIsLeast (levels : List Tree) (queries : List Query) (count : ℕ) : Type 0 where
  pub members : (e : Tree) → IsTrue (is_known levels queries count e) → Contains (expressions levels queries) e
  pub given : (e : Tree) → Contains (take count levels) e → IsTrue (is_known levels queries count e)
  pub closed : IsClosed (expressions levels queries) queries (is_known levels queries count)
  pub least : (holds : Tree → Bool) → IsClosed (expressions levels queries) queries holds → ((e : Tree) → Contains (take count levels) e → IsTrue (holds e))
      → (e : Tree) → IsTrue (is_known levels queries count e) → IsTrue (holds e)

-- it holds for all levels, queries and counts
abbrev pub KnownLaw : Type 0
KnownLaw = (levels : List Tree) (queries : List Query) (count : ℕ) → KnownIsLeast levels queries count

-- ---- size

-- the size is the lengths of all buffers and the numbers of positions, added up
abbrev pub SizeAddsLengths : Type 0
SizeAddsLengths = (s : Shape) (d : Declaration) (m : List Entry) → size s d m ≡ sum_by length (buffers s d m) + sum_by (λ x. sum (part_counts s x.0 x.1)) (parts_of s d m)

-- the size that is read off the buffers of a matrix is its size
abbrev pub SizeIsOfBuffers : Type 0
SizeIsOfBuffers = (s : Shape) (d : Declaration) (m : List Entry) → IsLawfulDeclaration d → size_in s d (buffers s d m) ≡ size s d m

-- the lengths of buffers, added up
abbrev pub cells_of : List Buffer → ℕ
cells_of = sum_by (λ b. b.len)

-- the size of a part before packing: its extents, tables and pieces, and its positions
abbrev pub unpacked_size : Shape → Part → List Entry → ℕ
unpacked_size s p m =
    cells_of (map (extent_buffer m s) (filter has_extent p.queries))
    + (cells_of (map (table_buffer m s) (filter has_table p.queries)) + (cells_of (piece_buffers s p m) + sum (part_counts s p m)))

-- packing keeps the size: of any buffers of the pieces, and of a declaration
pub record PackingKeepsSize : Type 0 where
  pub of_pieces : (p : Part) (bs : List Buffer) → ArePacksLawful p → length bs ≡ length (pieces p) → cells_of (packed p bs) ≡ cells_of bs
  pub of_parts : (s : Shape) (d : Declaration) (m : List Entry) → IsLawfulDeclaration d → size s d m ≡ sum_by (λ x. unpacked_size s x.0 x.1) (parts_of s d m)

-- ---- recovery

-- the plan recovers what all given steps recover
abbrev pub PlanRecovers : Type 0
PlanRecovers = (s : Shape) (p : Part) (f : Found) → recover s p f (plan_of p.levels p.queries) [] ≡ recovered s p f
