-- What is known of a cell of a region whose lists are laid in the bytes.
use Rattle.std.proofs.Common.{◌≡◌, ℕ, suc, ◌+◌, ◌*◌, ◌<◌, ◌≤◌, ℤ, pos, List, [], length, get_or, ap, ◌∙◌, arith, suc-mul, mul-le-mul_right}
use Rattle.us_raw.specs.Layout.{cell}
use Rattle.us_raw.specs.Region.{Lists, IsLaid, start_at, length_at, size_at, cells_from, row, region_of}
use Rattle.us_raw.proofs.Tabulate.{length-tabulate, get_or-tabulate}

pub later_cell : (x y s : ℕ) → x < y → x * s + s ≤ y * s
later_cell x y s lt = omega (arith, suc-mul x s, mul-le-mul_right {m = suc x} {n = y} s (omega arith))

module _ (bs : List ℕ) (n : ℕ) (laid : IsLaid bs n) (seg x : ℕ) where
  abbrev pub place : ℕ
  place = start_at bs seg + x * size_at bs seg

  pub entry_fits : seg < n → seg * 24 + 24 ≤ length bs
  entry_fits lt = omega (arith, laid.behind seg lt, laid.inside seg lt)

  pub cell_fits : seg < n → x < length_at bs seg → place + size_at bs seg ≤ length bs
  cell_fits lt within = omega (arith, laid.inside seg lt, later_cell x (length_at bs seg) (size_at bs seg) within)

  pub row-length : length (row bs seg) ≡ length_at bs seg
  unfolding cells_from
  row-length = length-tabulate (length_at bs seg) (λ y. cell (size_at bs seg) bs (start_at bs seg + y * size_at bs seg))

  pub row-cell : x < length_at bs seg → get_or (row bs seg) x (pos 0) ≡ cell (size_at bs seg) bs place
  unfolding cells_from
  row-cell within = get_or-tabulate (length_at bs seg) (λ y. cell (size_at bs seg) bs (start_at bs seg + y * size_at bs seg)) x (pos 0) within

  module _ (now : Lists) (view : now ≡ region_of bs n) (has : seg < length now.lists) (long : x < length (get_or now.lists seg [])) where
    pub in_table : seg < n
    in_table = omega (arith, has, ap (λ (r : Lists). length r.lists) view, length-tabulate n (row bs))

    pub listed : get_or now.lists seg [] ≡ row bs seg
    listed = ap (λ (r : Lists). get_or r.lists seg []) view ∙ get_or-tabulate n (row bs) seg [] in_table

    pub in_row : x < length_at bs seg
    in_row = omega (arith, long, ap (λ (l : List ℤ). length l) listed, row-length)

    pub listed_cell : get_or (get_or now.lists seg []) x (pos 0) ≡ cell (size_at bs seg) bs place
    listed_cell = ap (λ (l : List ℤ). get_or l x (pos 0)) listed ∙ row-cell in_row
