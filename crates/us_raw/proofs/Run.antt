-- Cells of one list of a region are overwritten: the table and the other lists stay.
use Rattle.std.proofs.Common.{◌≡◌, ◌≢◌, ℕ, ◌+◌, ◌-◌, ◌*◌, ◌<◌, ◌≤◌, ◌⊎◌, inl, inr, List, ◌++◌, length, set, replicate, ap, ◌∙◌, arith, w64}
use Rattle.std.proofs.lemmas.Bool.{cases_order}
use Rattle.std.specs.Int.{from_le_bytes, cast_signed}
use Rattle.us_raw.specs.Layout.{tabulate, word, cell}
use Rattle.us_raw.specs.Region.{IsLaid, start_at, length_at, width_at, size_at, cells_from, row}
use Rattle.us_raw.specs.Widths.{size_of, width_of}
use Rattle.us_raw.proofs.Kept.{over, over-length, kept}
use Rattle.us_raw.proofs.Laid.{later_cell}
use Rattle.us_raw.proofs.Tabulate.{tabulate_same, tabulate_set}

module _ (bs : List ℕ) (n : ℕ) (laid : IsLaid bs n) (seg : ℕ) (lt : seg < n) (ws : List ℕ) (at : ℕ)
    (low : start_at bs seg ≤ at) (high : at + length ws ≤ start_at bs seg + length_at bs seg * size_at bs seg) where
  pub fits : at + length ws ≤ length bs
  fits = omega (arith, high, laid.inside seg lt)

  abbrev pub new : List ℕ
  new = over bs ws at fits

  table_kept : (p : ℕ) → p + 8 ≤ n * 24 → word new p ≡ word bs p
  unfolding word
  table_kept p far = ap (from_le_bytes w64) (kept bs ws at fits p 8 (inl (omega (arith, far, low, laid.behind seg lt))))

  pub cell_kept : (size p : ℕ) → (p + size ≤ at) ⊎ (at + length ws ≤ p) → cell size new p ≡ cell size bs p
  unfolding cell
  cell_kept size p apart = ap (λ (l : List ℕ). cast_signed w64 (from_le_bytes w64 (l ++ replicate (8 - size) 0))) (kept bs ws at fits p size apart)

  pub starts : (i : ℕ) → i < n → start_at new i ≡ start_at bs i
  starts i below = table_kept (i * 24) (omega (arith, below))

  pub lengths : (i : ℕ) → i < n → length_at new i ≡ length_at bs i
  lengths i below = table_kept (i * 24 + 8) (omega (arith, below))

  pub widths : (i : ℕ) → i < n → width_at new i ≡ width_at bs i
  widths i below = ap width_of (table_kept (i * 24 + 16) (omega (arith, below)))

  pub same_entry : (i : ℕ) → i < n → row new i ≡ cells_from new (start_at bs i) (length_at bs i) (size_at bs i)
  same_entry i below = λ j. cells_from new (starts i below j) (lengths i below j) (size_of (widths i below j))

  other_rows : (i : ℕ) → i < n → i ≢ seg → row new i ≡ row bs i
  unfolding cells_from
  other_rows i below other =
      let s = size_at bs i in
      same_entry i below ∙ tabulate_same (length_at bs i) (λ y. cell s new (start_at bs i + y * s)) (λ y. cell s bs (start_at bs i + y * s)) (λ y inside.
      cell_kept s (start_at bs i + y * s) (elim (cases_order i seg) [
        | inl same ↦ absurd (other same)
        | inr (inl before) ↦ inl (omega (arith, low, laid.apart i seg before lt, later_cell y (length_at bs i) s inside))
        | inr (inr behind) ↦ inr (omega (arith, high, laid.apart seg i behind below))
      ]))

  pub lists_but_one : tabulate n (row new) ≡ set (tabulate n (row bs)) seg (row new seg)
  lists_but_one = tabulate_set n (row bs) (row new) seg lt other_rows

  pub widths_same : tabulate n (width_at new) ≡ tabulate n (width_at bs)
  widths_same = tabulate_same n (width_at new) (width_at bs) widths

  pub laid_again : IsLaid new n
  laid_again = record {
    behind = λ i below. omega (arith, laid.behind i below, starts i below);
    inside = λ i below. let sizes : length_at new i * size_at new i ≡ length_at bs i * size_at bs i = (λ j. lengths i below j * size_of (widths i below j)) in
        omega (arith, laid.inside i below, starts i below, sizes, over-length bs ws at fits);
    apart = λ i k before below. let there : i < n = omega arith in let sizes : length_at new i * size_at new i ≡ length_at bs i * size_at bs i = (λ j. lengths i there j * size_of (widths i there j)) in
        omega (arith, laid.apart i k before below, starts i there, starts k below, sizes);
  }
