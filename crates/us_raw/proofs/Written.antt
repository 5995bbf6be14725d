-- One of the cells that bytes are is read or written.
use Rattle.std.proofs.Common.{◌≡◌, ℕ, ◌+◌, ◌-◌, ◌*◌, ◌/◌, ◌<◌, ◌≤◌, inl, inr, ℤ, pos, List, ◌++◌, length, get_or, set, take, drop, replicate, sym, ap, ◌∙◌, arith, w64}
use lib.Seq.{drop-drop}
use mir.Val.{SFits}
use Rattle.std.specs.Int.{from_le_bytes, cast_signed}
use Rattle.std.proofs.lemmas.Bool.{cases_order}
use Rattle.us_raw.specs.declared.width.Width.{Width}
use Rattle.us_raw.specs.declared.width.Width.TheVariants.{W1, W2, W4, W8}
use Rattle.us_raw.specs.Layout.{tabulate, cell, cell_bytes}
use Rattle.us_raw.specs.Region.{cells_from}
use Rattle.us_raw.specs.Widths.{size_of, Holds}
use Rattle.us_raw.specs.Window.{cells_of}
use Rattle.us_raw.proofs.Back.{reads_back}
use Rattle.us_raw.proofs.Kept.{over, over-length, kept, written_there}
use Rattle.us_raw.proofs.Laid.{later_cell}
use Rattle.us_raw.proofs.Stored.{cell_bytes-length}
use Rattle.us_raw.proofs.Tabulate.{length-tabulate, get_or-tabulate, tabulate_set}

whole_cells : (w : Width) (k : ℕ) → k / size_of w * size_of w ≤ k
whole_cells W1 k = omega arith
whole_cells W2 k = omega arith
whole_cells W4 k = omega arith
whole_cells W8 k = omega arith

module _ (bs : List ℕ) (w : Width) (x : ℕ) (within : x < length (cells_of bs w)) where
  abbrev many : ℕ
  many = length bs / size_of w

  inside : x < many
  unfolding cells_from
  inside = omega (arith, within, length-tabulate many (λ y. cell (size_of w) bs (0 + y * size_of w)))

  pub cell_fits : x * size_of w + size_of w ≤ length bs
  cell_fits = omega (arith, later_cell x many (size_of w) inside, whole_cells w (length bs))

  pub cell_is : get_or (cells_of bs w) x (pos 0) ≡ cell (size_of w) bs (x * size_of w)
  unfolding cells_from
  cell_is = let first : 0 + x * size_of w ≡ x * size_of w = omega arith in
      get_or-tabulate many (λ y. cell (size_of w) bs (0 + y * size_of w)) x (pos 0) inside ∙ ap (cell (size_of w) bs) first

  module _ (v : ℤ) (sized : SFits w64 v) (holds : Holds w v) (ws : List ℕ) (is : ws ≡ cell_bytes (size_of w) v) where
    long : length ws ≡ size_of w
    long = ap (λ (l : List ℕ). length l) is ∙ cell_bytes-length w v

    fits : x * size_of w + length ws ≤ length bs
    fits = omega (arith, long, cell_fits)

    abbrev new : List ℕ
    new = over bs ws (x * size_of w) fits

    set_there : cells_from new 0 many (size_of w) ≡ set (cells_from bs 0 many (size_of w)) x v
    unfolding cells_from cell
    set_there =
        let s = size_of w in let old = λ (y : ℕ). cell s bs (0 + y * s) in let now = λ (y : ℕ). cell s new (0 + y * s) in
        let first : 0 + x * s ≡ x * s = omega arith in
        let shown : List ℕ → ℤ = λ (l : List ℕ). cast_signed w64 (from_le_bytes w64 (l ++ replicate (8 - s) 0)) in
        tabulate_set many old now x inside (λ y lt other.
        ap shown (kept bs ws (x * s) fits (0 + y * s) s (elim (cases_order y x) [
          | inl same ↦ absurd (other same)
          | inr (inl less) ↦ inl (omega (arith, later_cell y x s less))
          | inr (inr more) ↦ inr (omega (arith, long, later_cell x y s more))
        ]))) ∙ ap (λ (z : ℤ). set (tabulate many old) x z)
        (ap (cell s new) first ∙ ap shown (ap (λ (k : ℕ). take k (drop (x * s) new)) (sym long) ∙ written_there bs ws (x * s) fits ∙ is) ∙ reads_back w v sized holds)

    pub cells_set : (at size : ℕ) → at ≡ x * size_of w → size ≡ size_of w → cells_of (take at bs ++ (ws ++ drop size (drop at bs))) w ≡ set (cells_of bs w) x v
    cells_set at size is_at is_size =
        let parts = (λ i. take (is_at i) bs ++ (ws ++ drop ((is_size ∙ sym long) i) (drop (is_at i) bs))) ∙ ap (λ (l : List ℕ). take (x * size_of w) bs ++ (ws ++ l)) (drop-drop (length ws) (x * size_of w) bs) in
        ap (λ (l : List ℕ). cells_of l w) parts ∙ ap (λ (k : ℕ). cells_from new 0 (k / size_of w) (size_of w)) (over-length bs ws (x * size_of w) fits) ∙ set_there
