-- A cell of a list that is not the lent one stands before or behind the bytes that are lent.
use Rattle.std.proofs.Common.{◌≡◌, ◌≢◌, ℕ, ◌+◌, ◌-◌, ◌*◌, ◌<◌, ◌≤◌, ◌^◌, inl, inr, ℤ, pos, List, [], ◌++◌, length, get_or, set, take, drop, replicate, sym, ap, ◌∙◌, arith, w64}
use lib.ListN.{length-append}
use Rattle.std.specs.Int.{from_le_bytes, cast_signed}
use Rattle.std.proofs.lemmas.Bool.{cases_order}
use Rattle.std.proofs.lemmas.List.{get_or-set_same, get_or-set_other, length-set, length-replicate}
use Rattle.us_raw.specs.declared.width.Width.{Width}
use Rattle.us_raw.specs.declared.width.Width.TheVariants.{W1, W2, W4, W8}
use Rattle.us_raw.specs.Layout.{tabulate, word, cell}
use Rattle.us_raw.specs.Region.{start_at, length_at, width_at, size_at, row}
use Rattle.us_raw.specs.Rest.{filled, others_of, IsAround}
use Rattle.us_raw.specs.Widths.{size_of, width_of}
use Rattle.us_raw.proofs.Laid.{later_cell, cell_fits, row-length, row-cell}
use Rattle.us_raw.proofs.Pieces.{front_piece, back_piece}
use Rattle.us_raw.proofs.Tabulate.{length-tabulate, get_or-tabulate}

size_positive : (w : Width) → 1 ≤ size_of w
size_positive W1 = omega arith
size_positive W2 = omega arith
size_positive W4 = omega arith
size_positive W8 = omega arith

module _ (before : List ℕ) (skipped : ℕ) (after : List ℕ) (n lent : ℕ) (around : IsAround before skipped after n lent) (seg x : ℕ) (now : List (List ℤ))
    (view : now ≡ others_of before skipped after n lent) (has : seg < length now) (long : x < length (get_or now seg [])) where
  abbrev pub bs : List ℕ
  bs = filled before skipped after

  whole : length bs ≡ length before + (skipped + length after)
  whole = length-append before (replicate skipped 0 ++ after) ∙ ap (λ (k : ℕ). length before + k) (length-append (replicate skipped 0) after ∙ ap (λ (k : ℕ). k + length after) (length-replicate skipped 0))

  rows-length : length (tabulate n (row bs)) ≡ n
  rows-length = length-tabulate n (row bs)

  pub there : seg < n
  there = omega (arith, has, ap (λ (l : List (List ℤ)). length l) view, length-set (tabulate n (row bs)) lent [], rows-length)

  other : seg ≢ lent
  other same =
      let none : get_or now seg [] ≡ [] = ap (λ (l : List (List ℤ)). get_or l seg []) view ∙ ap (λ (k : ℕ). get_or (set (tabulate n (row bs)) lent []) k []) same
      ∙ get_or-set_same (tabulate n (row bs)) lent [] [] (omega (arith, around.listed, rows-length)) in
      absurd (omega (arith, long, ap (λ (l : List ℤ). length l) none))

  listed : get_or now seg [] ≡ row bs seg
  listed = ap (λ (l : List (List ℤ)). get_or l seg []) view ∙ get_or-set_other (tabulate n (row bs)) lent seg [] [] other ∙ get_or-tabulate n (row bs) seg [] there

  pub within : x < length_at bs seg
  within = omega (arith, long, ap (λ (l : List ℤ). length l) listed, row-length bs n around.laid seg x)

  table : n * 24 ≤ length before
  table = omega (arith, around.laid.behind lent around.listed, around.begins)

  pub entry_before : seg * 24 + 24 ≤ length before
  entry_before = omega (arith, table, there)

  word_before : (p : ℕ) → p + 8 ≤ n * 24 → word before p ≡ word bs p
  unfolding word
  word_before p low = ap (from_le_bytes w64) (sym (front_piece before (replicate skipped 0 ++ after) p 8 (omega (arith, low, table))))

  pub starts : start_at before seg ≡ start_at bs seg
  starts = word_before (seg * 24) (omega (arith, there))

  pub widths : width_at before seg ≡ width_at bs seg
  widths = ap width_of (word_before (seg * 24 + 16) (omega (arith, there)))

  abbrev pub place : ℕ
  place = start_at bs seg + x * size_at bs seg

  fits : place + size_at bs seg ≤ length bs
  fits = cell_fits bs n around.laid seg x there within

  later : x * size_at bs seg + size_at bs seg ≤ length_at bs seg * size_at bs seg
  later = later_cell x (length_at bs seg) (size_at bs seg) within

  pub place_small : place < 2 ^ 64
  place_small = omega (arith, fits, around.small)

  pub in_front : place < length before → place + size_at bs seg ≤ length before
  in_front low = elim (cases_order seg lent) [
    | inl same ↦ absurd (other same)
    | inr (inl less) ↦ omega (arith, later, around.laid.apart seg lent less around.listed, around.begins)
    | inr (inr more) ↦ absurd (omega (arith, low, around.laid.apart lent seg more there, around.begins))
  ]

  pub behind : length before ≤ place → length before + skipped ≤ place
  behind far = elim (cases_order seg lent) [
    | inl same ↦ absurd (other same)
    | inr (inl less) ↦ absurd (omega (arith, far, later, around.laid.apart seg lent less around.listed, around.begins, size_positive (width_at bs seg)))
    | inr (inr more) ↦ omega (arith, around.laid.apart lent seg more there, around.begins, around.wide)
  ]

  pub fits_after : length before ≤ place → place - length before - skipped + size_at bs seg ≤ length after
  fits_after far = omega (arith, behind far, fits, whole)

  is_cell : get_or (get_or now seg []) x (pos 0) ≡ cell (size_at bs seg) bs place
  is_cell = ap (λ (l : List ℤ). get_or l x (pos 0)) listed ∙ row-cell bs n around.laid seg x within

  pub front_cell : place < length before → cell (size_at bs seg) before place ≡ get_or (get_or now seg []) x (pos 0)
  unfolding cell
  front_cell low =
      let s = size_at bs seg in
      ap (λ (l : List ℕ). cast_signed w64 (from_le_bytes w64 (l ++ replicate (8 - s) 0))) (sym (front_piece before (replicate skipped 0 ++ after) place s (in_front low))) ∙ sym is_cell

  pub back_cell : length before ≤ place → cell (size_at bs seg) after (place - length before - skipped) ≡ get_or (get_or now seg []) x (pos 0)
  unfolding cell
  back_cell far =
      let s = size_at bs seg in let zeros = length-replicate skipped 0 in let high = behind far in
      let in_zeros : length {A = ℕ} (replicate skipped 0) ≤ place - length before = omega (arith, zeros, high) in
      let split = back_piece before (replicate skipped 0 ++ after) place s far ∙ back_piece (replicate skipped 0) after (place - length before) s in_zeros
      ∙ ap (λ (k : ℕ). take s (drop (place - length before - k) after)) zeros in
      ap (λ (l : List ℕ). cast_signed w64 (from_le_bytes w64 (l ++ replicate (8 - s) 0))) (sym split) ∙ sym is_cell
