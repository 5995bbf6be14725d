-- One cell of a region is overwritten.
use Rattle.std.proofs.Common.{◌≡◌, ℕ, ◌+◌, ◌-◌, ◌*◌, ◌<◌, ◌≤◌, inl, inr, ℤ, List, ◌++◌, length, set, take, drop, replicate, sym, ap, ◌∙◌, arith, w64}
use Rattle.std.proofs.lemmas.Bool.{cases_order}
use Rattle.std.specs.Int.{from_le_bytes, cast_signed}
use Rattle.us_raw.specs.Layout.{tabulate, cell, cell_bytes}
use Rattle.us_raw.specs.Region.{IsLaid, start_at, length_at, width_at, size_at, cells_from, row}
use Rattle.us_raw.specs.Widths.{Holds}
use mir.Val.{SFits}
use Rattle.us_raw.proofs.Back.{reads_back}
use Rattle.us_raw.proofs.Kept.{written_there}
use Rattle.us_raw.proofs.Laid.{later_cell}
use Rattle.us_raw.proofs.Run.{cell_kept, same_entry, lists_but_one}
use Rattle.us_raw.proofs.Run as run
use Rattle.us_raw.proofs.Tabulate.{tabulate_set}

module _ (bs : List ℕ) (n : ℕ) (laid : IsLaid bs n) (seg x : ℕ) (lt : seg < n) (within : x < length_at bs seg) (ws : List ℕ) (long : length ws ≡ size_at bs seg) where
  abbrev pub at : ℕ
  at = start_at bs seg + x * size_at bs seg

  pub low : start_at bs seg ≤ at
  low = omega arith

  pub high : at + length ws ≤ start_at bs seg + length_at bs seg * size_at bs seg
  high = omega (arith, long, later_cell x (length_at bs seg) (size_at bs seg) within)

  abbrev pub new : List ℕ
  new = run.new bs n laid seg lt ws at low high

  module _ (v : ℤ) (is : ws ≡ cell_bytes (size_at bs seg) v) (sized : SFits w64 v) (holds : Holds (width_at bs seg) v) where
    cell_new : cell (size_at bs seg) new at ≡ v
    unfolding cell
    cell_new = let s = size_at bs seg in
        ap (λ (l : List ℕ). cast_signed w64 (from_le_bytes w64 (l ++ replicate (8 - s) 0)))
        (ap (λ (k : ℕ). take k (drop at new)) (sym long) ∙ written_there bs ws at (run.fits bs n laid seg lt ws at low high) ∙ is) ∙ reads_back (width_at bs seg) v sized holds

    this_row : row new seg ≡ set (row bs seg) x v
    unfolding cells_from
    this_row = let s = size_at bs seg in let old = λ (y : ℕ). cell s bs (start_at bs seg + y * s) in let now = λ (y : ℕ). cell s new (start_at bs seg + y * s) in
        same_entry bs n laid seg lt ws at low high seg lt ∙ tabulate_set (length_at bs seg) old now x within (λ y inside other.
        cell_kept bs n laid seg lt ws at low high s (start_at bs seg + y * s) (elim (cases_order y x) [
          | inl same ↦ absurd (other same)
          | inr (inl before) ↦ inl (omega (arith, later_cell y x s before))
          | inr (inr behind) ↦ inr (omega (arith, long, later_cell x y s behind))
        ])) ∙ ap (λ (z : ℤ). set (tabulate (length_at bs seg) old) x z) cell_new

    pub lists_set : tabulate n (row new) ≡ set (tabulate n (row bs)) seg (set (row bs seg) x v)
    lists_set = lists_but_one bs n laid seg lt ws at low high ∙ ap (λ (l : List ℤ). set (tabulate n (row bs)) seg l) this_row

  pub widths_same : tabulate n (width_at new) ≡ tabulate n (width_at bs)
  widths_same = run.widths_same bs n laid seg lt ws at low high

  pub laid_again : IsLaid new n
  laid_again = run.laid_again bs n laid seg lt ws at low high
