-- Columns of cells, interleaved and taken apart again.
use Rattle.std.specs.Prelude.{◌≡◌, ℕ, ◌/◌, ◌%◌, ◌<◌, List, map, length, ℤ}
use Rattle.std.specs.List.{range_with_len, sum_by}
use Rattle.us_format.specs.Lists.{nth, cell}
use Rattle.us_format.specs.Packs.{column_from}

-- all columns are as long as the first
abbrev pub HaveOneLength : List (List ℤ) → Type 0
HaveOneLength columns = (y : ℕ) → y < length columns → length (nth columns y) ≡ length (nth columns 0)

-- cell x of column y of n columns is cell x * n + y, and there are as many cells as in all columns
abbrev pub interleaved_cells : List (List ℤ) → List ℤ
interleaved_cells columns = map (λ x. cell (nth columns (x % length columns)) (x / length columns)) (range_with_len 0 (sum_by (λ column. length column) columns))

-- the n columns of interleaved cells
abbrev pub separated_cells : ℕ → List ℤ → List (List ℤ)
separated_cells n cells = map (λ y. column_from n y cells) (range_with_len 0 n)

-- columns of one length that are interleaved come apart as they were, and cells of whole rows that are taken apart are interleaved as they were
pub record InterleavingIsUndone : Type 0 where
  pub separated : (columns : List (List ℤ)) → 0 < length columns → HaveOneLength columns → separated_cells (length columns) (interleaved_cells columns) ≡ columns
  pub interleaved : (n : ℕ) (cells : List ℤ) → 0 < n → length cells % n ≡ 0 → interleaved_cells (separated_cells n cells) ≡ cells
