-- Cells, read from their bytes.
use Rattle.std.proofs.Common.{◌≡◌, ℕ, ◌+◌, ◌*◌, ◌-◌, ◌/◌, ◌^◌, ◌≤◌, ◌<◌, List, length, take, drop, slice_index, map, sym, ap, ap₂, ◌∙◌, arith, inl, inr}
use Rattle.std.specs.Prelude.{true, ℤ, pos, nat_le, Ok}
use Rattle.std.specs.Int.{w64, cast_signed}
use Rattle.std.specs.List.{range_with_len}
use Rattle.std.proofs.lemmas.Bool.{cases_lt, le-ltb, le-leb, lt-ltb, cond-true}
use Rattle.std.proofs.lemmas.Int.{ints}
use Rattle.std.proofs.lemmas.List.{ext_get_or, drop-take, get_or-drop}
use Rattle.std.proofs.lemmas.List.FromFn.{get_or-map-range_with_len, length-map-range_with_len}
use Rattle.byteorder.specs.Endian.{little_number, twos_complement, IsReadBy}
use Rattle.byteorder.specs.Numbers.{little_from-lt, little_from-take}
use Rattle.us_container.specs.Contained.{cells_of, cells}

-- a cell from the eight bytes in front
abbrev pub cell : List ℕ → ℤ
cell ys = twos_complement 8 (little_number 8 ys)

pub shown : (n : ℕ) → n < 2 ^ 64 → cast_signed w64 n ≡ twos_complement 8 n
shown n h = elim (cases_lt n (2 ^ 63)) [
  | inl low ↦ rw (lt-ltb n (2 ^ 63) low) (omega (arith, ints))
  | inr high ↦ rw (le-ltb n (2 ^ 63) high) (omega (arith, ints))
]

-- a number of eight bytes, wherever it stands
pub fits : (src : List ℕ) (k : ℕ) → ((i : ℕ) → slice_index src i < 256) → little_number 8 (drop k src) < 2 ^ 64
fits src k bytes = little_from-lt 0 8 (drop k src) (λ i. rw (get_or-drop k src i 0) (bytes (k + i)))

-- what stands in the n cells that were read
pub read_cells : (n : ℕ) (src : List ℕ) (dst : List ℤ) → length dst ≡ n → ((i : ℕ) → slice_index src i < 256)
    → IsReadBy (λ ys. cast_signed w64 (little_number 8 ys)) 8 src dst → dst ≡ cells_of n src
unfolding cells_of
read_cells n src dst len bytes h =
    let f : ℕ → ℤ = λ k. cell (drop (8 * k) src) in
    ext_get_or (pos 0) dst (map f (range_with_len 0 n)) (len ∙ sym (length-map-range_with_len f 0 n))
    (λ i lt. h (pos 0) i lt ∙ shown (little_number 8 (drop (8 * i) src)) (fits src (8 * i) bytes) ∙ sym (get_or-map-range_with_len f 0 n i i (pos 0) (omega arith) (omega arith)))

-- the cells read no byte past their end
pub cells_within : (n : ℕ) (rest : List ℕ) → cells_of n (take (8 * n) rest) ≡ cells_of n rest
unfolding cells_of
cells_within n rest =
    let f : ℕ → ℤ = λ k. cell (drop (8 * k) (take (8 * n) rest)) in
    let g : ℕ → ℤ = λ k. cell (drop (8 * k) rest) in
    ext_get_or (pos 0) (map f (range_with_len 0 n)) (map g (range_with_len 0 n)) (length-map-range_with_len f 0 n ∙ sym (length-map-range_with_len g 0 n))
    (λ i lt.
    let below : i < n = omega (arith, length-map-range_with_len f 0 n) in
    let parts : 8 * n ≡ 8 * i + (8 * n - 8 * i) = omega arith in
    let front : drop (8 * i) (take (8 * n) rest) ≡ take (8 * n - 8 * i) (drop (8 * i) rest) = ap (λ m. drop (8 * i) (take m rest)) parts ∙ drop-take (8 * i) (8 * n - 8 * i) rest in
    let same : little_number 8 (drop (8 * i) (take (8 * n) rest)) ≡ little_number 8 (drop (8 * i) rest) = ap (little_number 8) front ∙ little_from-take 0 8 (8 * n - 8 * i) (drop (8 * i) rest) (omega arith) in
    get_or-map-range_with_len f 0 n i i (pos 0) below (omega arith) ∙ ap (twos_complement 8) same ∙ sym (get_or-map-range_with_len g 0 n i i (pos 0) below (omega arith)))

-- the cells that were read in front of what is left
pub cells_read : (len n : ℕ) (rest : List ℕ) (xs : List ℤ) (ys : List ℕ) → n ≤ length rest / 8 → xs ≡ cells_of n (take (8 * n) rest) → ys ≡ drop (8 * n) rest → cells len n rest ≡ Ok (xs, ys)
cells_read len n rest xs ys h ex ey =
    let room : nat_le (8 * n) (length rest) ≡ true = le-leb (8 * n) (length rest) (omega arith) in
    cond-true _ _ _ room ∙ ap₂ (λ (a : List ℤ) (b : List ℕ). Ok (a, b)) (sym (cells_within n rest) ∙ sym ex) (sym ey)
