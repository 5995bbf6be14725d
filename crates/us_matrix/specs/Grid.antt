-- A dense matrix: its sides, and its cells column after column.
use Rattle.std.specs.Prelude.{ℕ, ◌+◌, ◌*◌, List, ℤ, pos, slice_index_or}

pub record Grid : Type 0 where
  pub rows : ℕ
  pub cols : ℕ
  pub cells : List ℤ

-- the cell at row i and column k
abbrev pub cell_at : Grid → ℕ → ℕ → ℤ
cell_at d i k = slice_index_or d.cells (k * d.rows + i) (pos 0)
