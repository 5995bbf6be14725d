-- The formats of blocks.
use Rattle.std.specs.Prelude.{ℕ, ◌≤◌, List, [], ◌∷◌, map}
use Rattle.std.specs.List.{range_with_len}
use Rattle.us_expr.specs.Tree.{RowIndex, ColIndex, Quotient, Remainder}
use Rattle.us_format.specs.Lists.{join}
use Rattle.us_decl.specs.Declares.{Declared, Undivided}

-- how many rows or columns a block may have
abbrev pub IsBlockSide : ℕ → Type 0
IsBlockSide n = (1 ≤ n) × (n ≤ 8)

-- format best { map (i / rows, j / cols, i % rows, j % cols) trim 1 merge 1 }
abbrev pub block : ℕ → ℕ → Declared
block rows cols = record {
  name = 98 ∷ 101 ∷ 115 ∷ 116 ∷ [];
  body =
      Undivided (record {
        names = [];
        queries = [];
        levels = Quotient RowIndex rows ∷ Quotient ColIndex cols ∷ Remainder RowIndex rows ∷ Remainder ColIndex cols ∷ [];
        trim = 1 ∷ [];
        merge = 1 ∷ [];
        packs = [];
      });
}

-- the blocks of so many rows, of 1 to 8 columns
unfoldable pub row_of_blocks : ℕ → List Declared
row_of_blocks rows = map (block rows) (range_with_len 1 8)

-- the blocks of 1 to 8 rows and 1 to 8 columns, by their rows and then by their columns
unfoldable pub all_blocks : List Declared
all_blocks = join (map row_of_blocks (range_with_len 1 8))
