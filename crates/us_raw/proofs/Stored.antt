-- What a region is once a cell was stored, in the terms of what the code has at hand.
use Rattle.std.proofs.Common.{◌≡◌, ℕ, ◌+◌, ◌*◌, ◌<◌, ℤ, List, [], length, get_or, set, refl, sym, ap, ◌∙◌, subst, w64}
use mir.Val.{SFits}
use Rattle.us_raw.specs.declared.width.Width.{Width}
use Rattle.us_raw.specs.declared.width.Width.TheVariants.{W1, W2, W4, W8}
use Rattle.us_raw.specs.Layout.{tabulate, cell_bytes}
use Rattle.us_raw.specs.Lends.{overwritten}
use Rattle.us_raw.specs.Region.{Lists, IsLaid, start_at, length_at, width_at, size_at, row, region_of}
use Rattle.us_raw.specs.Widths.{size_of, Holds}
use Rattle.us_raw.proofs.Changed.{new, lists_set, widths_same, laid_again}
use Rattle.us_raw.proofs.Kept.{overwritten_is}
use Rattle.us_raw.proofs.Laid.{in_table, in_row, listed}
use Rattle.us_raw.proofs.Tabulate.{get_or-tabulate}

pub cell_bytes-length : (w : Width) (v : ℤ) → length (cell_bytes (size_of w) v) ≡ size_of w
unfolding cell_bytes
cell_bytes-length W1 v = refl
cell_bytes-length W2 v = refl
cell_bytes-length W4 v = refl
cell_bytes-length W8 v = refl

module _ (bs : List ℕ) (n : ℕ) (laid : IsLaid bs n) (seg x : ℕ) (now : Lists) (view : now ≡ region_of bs n) (has : seg < length now.lists) (long : x < length (get_or now.lists seg [])) where
  there : seg < n
  there = in_table bs n laid seg x now view has long

  within : x < length_at bs seg
  within = in_row bs n laid seg x now view has long

  abbrev at : ℕ
  at = start_at bs seg + x * size_at bs seg

  module _ (v : ℤ) (place size : ℕ) (ws : List ℕ) (is_place : place ≡ at) (is_size : size ≡ size_at bs seg) (is_cell : ws ≡ cell_bytes (size_at bs seg) v) where
    stored : overwritten bs place size ws ≡ new bs n laid seg x there within (cell_bytes (size_at bs seg) v) (cell_bytes-length (width_at bs seg) v)
    stored = (λ i. overwritten bs (is_place i) (is_size i) (is_cell i)) ∙ overwritten_is bs (cell_bytes (size_at bs seg) v) at (size_at bs seg) (cell_bytes-length (width_at bs seg) v)

    pub laid_stored : IsLaid (overwritten bs place size ws) n
    laid_stored = subst (λ (l : List ℕ). IsLaid l n) (sym stored) (laid_again bs n laid seg x there within (cell_bytes (size_at bs seg) v) (cell_bytes-length (width_at bs seg) v))

    pub widths_stored : tabulate n (width_at (overwritten bs place size ws)) ≡ now.widths
    widths_stored = ap (λ (l : List ℕ). tabulate n (width_at l)) stored
        ∙ widths_same bs n laid seg x there within (cell_bytes (size_at bs seg) v) (cell_bytes-length (width_at bs seg) v) ∙ sym (ap (λ (r : Lists). r.widths) view)

    pub lists_stored : SFits w64 v → Holds (get_or now.widths seg W8) v → tabulate n (row (overwritten bs place size ws)) ≡ set now.lists seg (set (get_or now.lists seg []) x v)
    lists_stored sized holds =
        let width : get_or now.widths seg W8 ≡ width_at bs seg = ap (λ (r : Lists). get_or r.widths seg W8) view ∙ get_or-tabulate n (width_at bs) seg W8 there in
        let old = ap (λ (r : Lists). r.lists) view in let one = listed bs n laid seg x now view has long in
        ap (λ (l : List ℕ). tabulate n (row l)) stored
        ∙ lists_set bs n laid seg x there within (cell_bytes (size_at bs seg) v) (cell_bytes-length (width_at bs seg) v) v refl sized (subst (λ (w : Width). Holds w v) width holds)
        ∙ sym (λ i. set (old i) seg (set (one i) x v))
