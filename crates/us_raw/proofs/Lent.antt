-- A whole list of a region is lent: what its bytes are, and what the region ends as.
use Rattle.std.proofs.Common.{◌≡◌, ℕ, ◌+◌, ◌-◌, ◌*◌, ◌/◌, ◌<◌, ◌≤◌, ◌^◌, ℤ, List, [], ◌++◌, length, get_or, set, take, drop, replicate, sym, ap, ◌∙◌, subst, arith, w64}
use lib.ListN.{length-drop}
use lib.Seq.{drop-drop, set-set}
use Rattle.std.specs.Int.{from_le_bytes, cast_signed}
use Rattle.std.specs.List.{refill, length_refill}
use Rattle.std.proofs.lemmas.List.{length-take-le, length-replicate}
use Rattle.us_raw.specs.declared.width.Width.{Width}
use Rattle.us_raw.specs.declared.width.Width.TheVariants.{W1, W2, W4, W8}
use Rattle.us_raw.specs.Layout.{tabulate, cell}
use Rattle.us_raw.specs.Lends.{overwritten}
use Rattle.us_raw.specs.Region.{Lists, IsLaid, start_at, length_at, width_at, size_at, cells_from, row, region_of}
use Rattle.us_raw.specs.Rest.{filled, others_of, IsAround}
use Rattle.us_raw.specs.Widths.{size_of}
use Rattle.us_raw.specs.Window.{cells_of, with_cells}
use Rattle.us_raw.proofs.Kept.{over-length}
use Rattle.us_raw.proofs.Laid.{later_cell}
use Rattle.us_raw.proofs.Pieces.{front_piece, back_piece, inner_piece}
use Rattle.us_raw.proofs.Run as run
use Rattle.us_raw.proofs.Tabulate.{length-tabulate, get_or-tabulate, tabulate_same}

count_of : (w : Width) (n bytes : ℕ) → bytes ≡ n * size_of w → bytes / size_of w ≡ n
count_of W1 n bytes is = omega (arith, is)
count_of W2 n bytes is = omega (arith, is)
count_of W4 n bytes is = omega (arith, is)
count_of W8 n bytes is = omega (arith, is)

-- the cells of bytes that hold n of them
pub cells_counted : (w : Width) (n : ℕ) (bytes : List ℕ) → length bytes ≡ n * size_of w → cells_of bytes w ≡ cells_from bytes 0 n (size_of w)
cells_counted w n bytes is = ap (λ (k : ℕ). cells_from bytes 0 k (size_of w)) (count_of w n (length bytes) is)

-- cells are the same where their bytes are
pub cells_moved : (a b : List ℕ) (p q n s : ℕ) → ((y : ℕ) → y + s ≤ n * s → take s (drop (p + y) a) ≡ take s (drop (q + y) b)) → cells_from a p n s ≡ cells_from b q n s
unfolding cells_from cell
cells_moved a b p q n s same =
    tabulate_same n (λ x. cell s a (p + x * s)) (λ x. cell s b (q + x * s))
    (λ x lt. ap (λ (l : List ℕ). cast_signed w64 (from_le_bytes w64 (l ++ replicate (8 - s) 0))) (same (x * s) (later_cell x n s lt)))

module _ (bs : List ℕ) (n : ℕ) (laid : IsLaid bs n) (seg : ℕ) (now : Lists) (view : now ≡ region_of bs n) (has : seg < length now.lists) where
  pub there : seg < n
  there = omega (arith, has, ap (λ (r : Lists). length r.lists) view, length-tabulate n (row bs))

  pub listed : get_or now.lists seg [] ≡ row bs seg
  listed = ap (λ (r : Lists). get_or r.lists seg []) view ∙ get_or-tabulate n (row bs) seg [] there

  pub width_listed : get_or now.widths seg W8 ≡ width_at bs seg
  width_listed = ap (λ (r : Lists). get_or r.widths seg W8) view ∙ get_or-tabulate n (width_at bs) seg W8 there

  abbrev pub from : ℕ
  from = start_at bs seg

  abbrev pub size : ℕ
  size = length_at bs seg * size_at bs seg

  pub inside : from + size ≤ length bs
  inside = laid.inside seg there

  abbrev pub lent : List ℕ
  lent = take size (drop from bs)

  pub lent-length : length lent ≡ size
  lent-length = length-take-le size (drop from bs) (omega (arith, inside, length-drop from bs))

  pub lent_cells : cells_of lent (width_at bs seg) ≡ row bs seg
  lent_cells =
      cells_counted (width_at bs seg) (length_at bs seg) lent lent-length ∙ cells_moved lent bs 0 from (length_at bs seg) (size_at bs seg) (λ y fits.
      let first : 0 + y ≡ y = omega arith in
      ap (λ (k : ℕ). take (size_at bs seg) (drop k lent)) first
      ∙ inner_piece (drop from bs) size y (size_at bs seg) (omega (arith, inside, length-drop from bs)) (omega (arith, fits))
      ∙ ap (take (size_at bs seg)) (drop-drop y from bs))

  module _ (ws : List ℕ) (long : length ws ≡ size) where
    pub low : start_at bs seg ≤ from
    low = omega arith

    pub high : from + length ws ≤ start_at bs seg + length_at bs seg * size_at bs seg
    high = omega (arith, long)

    abbrev pub new : List ℕ
    new = run.new bs n laid seg there ws from low high

    new_row : row new seg ≡ cells_of ws (width_at bs seg)
    new_row =
        let s = size_at bs seg in let front = length-take-le from bs (omega (arith, inside)) in
        run.same_entry bs n laid seg there ws from low high seg there ∙ cells_moved new ws from 0 (length_at bs seg) s (λ y fits.
        back_piece (take from bs) (ws ++ drop (from + length ws) bs) (from + y) s (omega (arith, front))
        ∙ ap (λ (k : ℕ). take s (drop k (ws ++ drop (from + length ws) bs))) {x = from + y - length (take from bs)} {y = 0 + y} (omega (arith, front))
        ∙ front_piece ws (drop (from + length ws) bs) (0 + y) s (omega (arith, fits, long)))
        ∙ sym (cells_counted (width_at bs seg) (length_at bs seg) ws long)

    pub lists_new : tabulate n (row new) ≡ set now.lists seg (cells_of ws (get_or now.widths seg W8))
    lists_new =
        let old = ap (λ (r : Lists). r.lists) view in
        run.lists_but_one bs n laid seg there ws from low high ∙ ap (λ (l : List ℤ). set (tabulate n (row bs)) seg l) new_row
        ∙ sym (λ i. set (old i) seg (cells_of ws (width_listed i)))

    pub region_new : region_of new n ≡ with_cells now seg ws
    region_new = let same = run.widths_same bs n laid seg there ws from low high ∙ sym (ap (λ (r : Lists). r.widths) view) in
        λ i. record { lists = lists_new i; widths = same i }

  -- in the terms of the code
  module _ (start many : ℕ) (is_start : start ≡ from) (is_many : many ≡ size) where
    module _ (ws : List ℕ) where
      abbrev left : List ℕ
      left = refill size lent ws

      left-length : length left ≡ size
      left-length = sym (length_refill size lent ws (sym lent-length))

      ended : overwritten bs start many ws ≡ new left left-length
      ended = (λ i. overwritten bs (is_start i) (is_many i) ws) ∙ ap (λ (k : ℕ). take from bs ++ (left ++ drop (from + k) bs)) (sym left-length)

      pub laid_ended : IsLaid (overwritten bs start many ws) n
      laid_ended = subst (λ (l : List ℕ). IsLaid l n) (sym ended) (run.laid_again bs n laid seg there left from (low left left-length) (high left left-length))

      pub region_ended : (bytes : List ℕ) → bytes ≡ take many (drop start bs) → region_of (overwritten bs start many ws) n ≡ with_cells now seg (refill (length bytes) bytes ws)
      region_ended bytes is =
          let same : bytes ≡ lent = is ∙ (λ i. take (is_many i) (drop (is_start i) bs)) in
          let long : length bytes ≡ size = ap (λ (l : List ℕ). length l) same ∙ lent-length in
          ap (λ (l : List ℕ). region_of l n) ended ∙ region_new left left-length ∙ sym (λ i. with_cells now seg (refill (long i) (same i) ws))

    zeros-length : length {A = ℕ} (replicate size 0) ≡ size
    zeros-length = length-replicate size 0

    module _ (before after : List ℕ) (is_before : before ≡ take start bs) (is_after : after ≡ drop (start + many) bs) where
      around : filled before many after ≡ new (replicate size 0) zeros-length
      around = (λ i. is_before i ++ (replicate (is_many i) 0 ++ is_after i)) ∙ (λ i. take (is_start i) bs ++ (replicate size 0 ++ drop (is_start i + is_many i) bs))
          ∙ ap (λ (k : ℕ). take from bs ++ (replicate size 0 ++ drop (from + k) bs)) (sym zeros-length)

      pub is_around : length bs < 2 ^ 64 → IsAround before many after n seg
      is_around small =
          let zs = replicate size 0 in let l = low zs zeros-length in let h = high zs zeros-length in
          let starts = ap (λ (m : List ℕ). start_at m seg) around ∙ run.starts bs n laid seg there zs from l h seg there in
          let wide = (λ i. length_at (around i) seg * size_at (around i) seg)
          ∙ (λ i. run.lengths bs n laid seg there zs from l h seg there i * size_of (run.widths bs n laid seg there zs from l h seg there i)) in
          let front : length before ≡ from = ap (λ (m : List ℕ). length m) is_before ∙ length-take-le start bs (omega (arith, is_start, inside)) ∙ is_start in
          let whole = ap (λ (m : List ℕ). length m) around ∙ over-length bs zs from (run.fits bs n laid seg there zs from l h) in
          record {
            laid = subst (λ (m : List ℕ). IsLaid m n) (sym around) (run.laid_again bs n laid seg there zs from l h);
            listed = there;
            begins = starts ∙ sym front;
            wide = wide ∙ sym is_many;
            small = subst (λ (k : ℕ). k < 2 ^ 64) (sym whole) small;
          }

      pub others_are : others_of before many after n seg ≡ set now.lists seg []
      others_are =
          let zs = replicate size 0 in let old = ap (λ (r : Lists). r.lists) view in
          ap (λ (m : List ℕ). set (tabulate n (row m)) seg []) around
          ∙ ap (λ (l : List (List ℤ)). set l seg []) (lists_new zs zeros-length)
          ∙ set-set now.lists seg (cells_of zs (get_or now.widths seg W8)) []
