-- With the whole table written and zeros behind it, the bytes are the lists of the plan.
use Rattle.std.proofs.Common.{◌≡◌, ℕ, ◌+◌, ◌-◌, ◌*◌, ◌<◌, ◌≤◌, pos, List, ◌++◌, length, get_or, take, drop, replicate, refl, ap, ◌∙◌, arith, w64}
use lib.Seq.{take-take}
use Rattle.std.specs.Int.{from_le_bytes, cast_signed}
use Rattle.std.specs.List.{sum_by}
use Rattle.std.proofs.lemmas.List.{take-replicate, drop-replicate, get_or-take, length-take-le}
use Rattle.std.proofs.lemmas.List.Sums.{sum_by_more_le}
use Rattle.us_raw.specs.declared.region.Segment.{Segment}
use Rattle.us_raw.specs.declared.width.Width.{Width}
use Rattle.us_raw.specs.declared.width.Width.TheVariants.{W1, W2, W4, W8}
use Rattle.us_raw.specs.Layout.{tabulate, cell}
use Rattle.us_raw.specs.Plan.{IsTable, cells_size, start_of, size_of_plan, no_segment, zero_lists, widths_of}
use Rattle.us_raw.specs.Region.{IsLaid, start_at, length_at, width_at, size_at, cells_from, row}
use Rattle.us_raw.specs.Widths.{size_of, width_of}
use Rattle.us_raw.proofs.Laid.{later_cell}
use Rattle.us_raw.proofs.Tabulate.{tabulate_same, tabulate_const, tabulate_map}

width_back : (w : Width) → width_of (size_of w) ≡ w
width_back W1 = refl
width_back W2 = refl
width_back W4 = refl
width_back W8 = refl

zero_cell : (w : Width) → cast_signed w64 (from_le_bytes w64 (replicate (size_of w) 0 ++ replicate (8 - size_of w) 0)) ≡ pos 0
zero_cell W1 = refl
zero_cell W2 = refl
zero_cell W4 = refl
zero_cell W8 = refl

module _ (plan : List Segment) (bs : List ℕ) (t : IsTable plan bs (length plan)) where
  abbrev n : ℕ
  n = length plan

  abbrev seg : ℕ → Segment
  seg i = get_or plan i no_segment

  width_is : (i : ℕ) → i < n → width_at bs i ≡ (seg i).width
  width_is i lt = ap width_of (t.sizes i lt) ∙ width_back (seg i).width

  cells_is : (i : ℕ) → i < n → length_at bs i * size_at bs i ≡ cells_size (seg i)
  unfolding cells_size
  cells_is i lt = λ j. t.lengths i lt j * size_of (width_is i lt j)

  ends : (i : ℕ) → i < n → start_of plan i + cells_size (seg i) ≤ size_of_plan plan
  unfolding start_of size_of_plan
  ends i lt = omega (arith, sum_by_more_le cells_size plan i no_segment lt)

  before_next : (i j : ℕ) → i < j → j < n → start_of plan i + cells_size (seg i) ≤ start_of plan j
  unfolding start_of
  before_next i j less lt =
      let le : i ≤ j = omega (arith, less) in
      let long : length (take j plan) ≡ j = length-take-le j plan (omega (arith, lt)) in
      let some = sum_by_more_le cells_size (take j plan) i no_segment (omega (arith, long, less)) in
      let front : sum_by cells_size (take i (take j plan)) ≡ sum_by cells_size (take i plan) = ap (λ (l : List Segment). sum_by cells_size l) (take-take i j plan le) in
      let one : cells_size (get_or (take j plan) i no_segment) ≡ cells_size (seg i) = ap cells_size (get_or-take j plan i no_segment less) in
      omega (arith, some, front, one)

  behind_table : (i : ℕ) → n * 24 ≤ start_of plan i
  unfolding start_of
  behind_table i = omega arith

  pub laid_fresh : IsLaid bs n
  laid_fresh = record {
    behind = λ i lt. omega (arith, t.starts i lt, behind_table i);
    inside = λ i lt. omega (arith, t.starts i lt, cells_is i lt, ends i lt, t.long);
    apart = λ i j less lt. let there : i < n = omega (arith, less, lt) in omega (arith, t.starts i there, t.starts j lt, cells_is i there, before_next i j less lt);
  }

  clear_cell : (w : Width) (p : ℕ) → n * 24 ≤ p → p + size_of w ≤ size_of_plan plan → cell (size_of w) bs p ≡ pos 0
  unfolding cell
  clear_cell w p far fits =
      let s = size_of w in let all = size_of_plan plan in
      let zeros : take s (drop p bs) ≡ replicate s 0 =
      t.clear p s far ∙ ap (λ (l : List ℕ). take s l) (drop-replicate p all 0) ∙ take-replicate s (all - p) 0 (omega (arith, fits)) in
      ap (λ (l : List ℕ). cast_signed w64 (from_le_bytes w64 (l ++ replicate (8 - s) 0))) zeros ∙ zero_cell w

  row_is : (i : ℕ) → i < n → row bs i ≡ replicate (seg i).len (pos 0)
  unfolding cells_from
  row_is i lt =
      let s = size_at bs i in let many = length_at bs i in
      tabulate_const many (λ x. cell s bs (start_at bs i + x * s)) (pos 0) (λ x within.
      clear_cell (width_at bs i) (start_at bs i + x * s) (omega (arith, t.starts i lt, behind_table i)) (omega (arith, later_cell x many s within, laid_fresh.inside i lt, t.long)))
      ∙ ap (λ (k : ℕ). replicate k (pos 0)) (t.lengths i lt)

  pub lists_fresh : tabulate n (row bs) ≡ zero_lists plan
  lists_fresh = tabulate_same n (row bs) (λ i. replicate (seg i).len (pos 0)) row_is ∙ tabulate_map (λ (s : Segment). replicate s.len (pos 0)) no_segment plan

  pub widths_fresh : tabulate n (width_at bs) ≡ widths_of plan
  widths_fresh = tabulate_same n (width_at bs) (λ i. (seg i).width) width_is ∙ tabulate_map (λ (s : Segment). s.width) no_segment plan
