-- The pieces of a part, and the packs that interleave some of them.
use Rattle.std.specs.Prelude.{ℕ, suc, ◌+◌, ◌*◌, ◌/◌, ◌%◌, ℤ, pos, List, [], ◌∷◌, ◌++◌, map, length, slice_index_or, Bool, false, not, nat_eq}
use Rattle.std.specs.List.{filter, range_with_len, list_any, sum_by, position_or_len}
use Rattle.us_expr.specs.Tree.{Tree}
use Rattle.us_format.specs.declared.Kind.{Kind}
use Rattle.us_format.specs.declared.Kind.TheVariants.{Full, Compressed, Listed, Slot}
use Rattle.us_format.specs.Lists.{cell}
use Rattle.us_format.specs.Declaration.{Column, LevelColumn, ValueColumn, Part, same_column}
use Rattle.us_format.specs.Kinds.{kind}

-- what the levels and the values are kept in: the `pos` of a level, or a column that a pack may name
pub data Piece : Type 0 where
  PosOf : ℕ → Piece
  CellsOf : Column → Piece

-- whether two pieces are the same
abbrev pub same_piece : Piece → Piece → Bool
same_piece (PosOf a) (PosOf b) = nat_eq a b
same_piece (CellsOf a) (CellsOf b) = same_column a b
same_piece _ _ = false

-- the pieces of the level k
abbrev pub level_pieces : ℕ → Kind → List Piece
level_pieces k Full = []
level_pieces k Compressed = PosOf k ∷ CellsOf (LevelColumn k) ∷ []
level_pieces k Listed = PosOf k ∷ CellsOf (LevelColumn k) ∷ []
level_pieces k Slot = CellsOf (LevelColumn k) ∷ []

-- the pieces of the levels es, numbered from k on, and the values
abbrev pub pieces_from : Part → ℕ → List Tree → List Piece
pieces_from p k [] = CellsOf ValueColumn ∷ []
pieces_from p k (e ∷ es) = level_pieces k (kind p k) ++ pieces_from p (suc k) es

-- the pieces of a part in their order
abbrev pub pieces : Part → List Piece
pieces p = pieces_from p 0 p.levels

-- whether a column is in a pack
abbrev pub in_pack : Column → List Column → Bool
in_pack c pack = list_any (same_column c) pack

-- whether some pack has a piece
abbrev pub is_packed : Part → Piece → Bool
is_packed p (PosOf k) = false
is_packed p (CellsOf c) = list_any (in_pack c) p.packs

-- the pieces that keep a buffer of their own
abbrev pub own_pieces : Part → List Piece
own_pieces p = filter (λ x. not (is_packed p x)) (pieces p)

-- a buffer before it is written out: how many cells, and each of them
pub record Buffer : Type 0 where
  pub len : ℕ
  pub cell : ℕ → ℤ

-- the cells in order
abbrev pub written : Buffer → List ℤ
written b = map b.cell (range_with_len 0 b.len)

-- a buffer without cells
abbrev pub nothing : Buffer
nothing = record { len = 0; cell = λ _. pos 0 }

-- the buffer of a piece, where the pieces xs have the buffers bs
abbrev pub buffer_of : Piece → List Piece → List Buffer → Buffer
buffer_of x xs bs = slice_index_or bs (position_or_len (same_piece x) xs) nothing

-- one pack: cell x of column y of n columns is cell x * n + y
abbrev pub interleaved : List Buffer → Buffer
interleaved bs = let n = length bs in record { len = sum_by (λ b. b.len) bs; cell = λ x. (slice_index_or bs (x % n) nothing).cell (x / n) }

-- the pieces with buffers of their own in their places, and after them the packs
abbrev pub packed : Part → List Buffer → List Buffer
packed p bs =
    map (λ x. buffer_of x (pieces p) bs) (own_pieces p) ++ map (λ pack. interleaved (map (λ c. buffer_of (CellsOf c) (pieces p) bs) pack)) p.packs

-- column y of n interleaved columns
abbrev pub column_from : ℕ → ℕ → List ℤ → List ℤ
column_from n y cells = map (λ x. cell cells (x * n + y)) (range_with_len 0 (length cells / n))
