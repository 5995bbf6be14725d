-- The lists of cells of a part's pieces.
use Rattle.std.specs.Prelude.{ℕ, suc, ℤ, List, [], ◌∷◌, ◌++◌, map, All}
use Rattle.std.specs.List.{position_or_len, filter}
use Rattle.us_format.specs.declared.Kind.{Kind}
use Rattle.us_format.specs.Declaration.{Column, LevelColumn, ValueColumn, Part}
use Rattle.us_format.specs.Lists.{nth}
use Rattle.us_format.specs.Packs.{Piece, PosOf, CellsOf, same_piece, level_pieces, pieces}
use Rattle.us_layout.specs.declared.pieces.Piece as code
use Rattle.us_layout.specs.declared.pieces.Piece.TheVariants.{Pos, Coordinates, Values}
use Rattle.us_decl.specs.declared.column.Column as columns
use Rattle.us_judge.specs.Buffers.{is_own}
use Rattle.us_judge.specs.Views.{column_of}
use Rattle.us_layout.specs.Interleaving.{HaveOneLength, interleaved_cells}

-- a piece of the program as plain data
abbrev pub plain_piece : code.Piece → Piece
plain_piece (Pos k) = PosOf k
plain_piece (Coordinates k) = CellsOf (LevelColumn k)
plain_piece Values = CellsOf ValueColumn

-- the pieces of levels of these kinds, numbered from k on, and the values
abbrev pub pieces_by : ℕ → List Kind → List Piece
pieces_by k [] = CellsOf ValueColumn ∷ []
pieces_by k (x ∷ xs) = level_pieces k x ++ pieces_by (suc k) xs

-- the list of a piece, where the pieces xs have these lists; no cells where it is none of them
abbrev pub list_of : List Piece → List (List ℤ) → Piece → List ℤ
list_of xs lists x = nth lists (position_or_len (same_piece x) xs)

-- the lists of those of the pieces ys that no pack has
abbrev pub own_cells : Part → List Piece → List (List ℤ) → List Piece → List (List ℤ)
own_cells p xs lists ys = map (list_of xs lists) (filter (is_own p) ys)

-- the lists of a pack's columns
abbrev pub columns_of : List Piece → List (List ℤ) → List Column → List (List ℤ)
columns_of xs lists pack = map (λ c. list_of xs lists (CellsOf c)) pack

-- the cells of a pack
abbrev pub pack_cells : List Piece → List (List ℤ) → List Column → List ℤ
pack_cells xs lists pack = interleaved_cells (columns_of xs lists pack)

-- the columns of each pack of a part have one length
abbrev pub PacksHaveOneLength : Part → List (List ℤ) → Type 0
PacksHaveOneLength p lists = All (λ pack. HaveOneLength (columns_of (pieces p) lists pack)) p.packs

-- ---- packs of the program

-- the columns of each pack have one length
abbrev pub HaveOneLengthEach : List Piece → List (List ℤ) → List (List columns.Column) → Type 0
HaveOneLengthEach xs lists packs = All (λ pack. HaveOneLength (columns_of xs lists (map column_of pack))) packs

-- the cells of each pack
abbrev pub packs_cells : List Piece → List (List ℤ) → List (List columns.Column) → List (List ℤ)
packs_cells xs lists packs = map (λ pack. pack_cells xs lists (map column_of pack)) packs
