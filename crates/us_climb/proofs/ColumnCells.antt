-- The cells of a column, by their numbers.
use Rattle.std.proofs.Common.{◌≡◌, ℕ, ◌+◌, ◌*◌, ◌/◌, ◌<◌, ◌≤◌, List, length, ℤ, pos, zero-add, arith}
use Rattle.std.proofs.lemmas.List.{get_or_past}
use Rattle.std.proofs.lemmas.List.FromFn.{get_or-map-range_with_len, length-map-range_with_len}
use Rattle.us_format.specs.Lists.{cell}
use Rattle.us_format.specs.Packs.{column_from}

pub length-column : (n y : ℕ) (cells : List ℤ) → length (column_from n y cells) ≡ length cells / n
length-column n y cells = length-map-range_with_len (λ x. cell cells (x * n + y)) 0 (length cells / n)

pub cell-within : (n y : ℕ) (cells : List ℤ) (x : ℕ) → x < length cells / n → cell (column_from n y cells) x ≡ cell cells (x * n + y)
cell-within n y cells x l = get_or-map-range_with_len (λ x. cell cells (x * n + y)) 0 (length cells / n) x x (pos 0) l (zero-add x)

pub cell-past : (n y : ℕ) (cells : List ℤ) (x : ℕ) → length cells / n ≤ x → cell (column_from n y cells) x ≡ pos 0
cell-past n y cells x l = get_or_past (column_from n y cells) x (pos 0) (omega (arith, length-column n y cells))
