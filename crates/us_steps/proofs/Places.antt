-- A matrix has no more entries than places.
use Rattle.std.specs.Prelude.{nat_lt, nat_eq}
use Rattle.std.proofs.Common.{◌≡◌, ℕ, suc, ◌+◌, ◌*◌, ◌<◌, ◌≤◌, ◌⊎◌, List, [], ◌∷◌, length, true, ◌&&◌, refl, ap, inl, inr, arith}
use Rattle.std.proofs.lemmas.Bool.{or_cases, and_parts}
use Rattle.std.proofs.lemmas.Bool.Decides.{nat_tests}
use Rattle.std.proofs.lemmas.Nat.{mul-le, mul-add-lt}
use Rattle.std.proofs.Math.Nat.{mul_comm}
use Rattle.us_format.specs.Matrix.{Shape, Entry, IsMatrixOf, earlier}
use Rattle.us_format.proofs.Collect.{RowMajor}
use Rattle.us_format.proofs.Lawful.{row-major}
use Rattle.us_format.proofs.Members.{all-Mem}
use Rattle.us_format.proofs.Order.{Mem}

below : (a b : ℕ) → nat_lt a b ≡ true → a < b
below a b e = grind (arith, nat_tests)

equal : (a b : ℕ) → nat_eq a b ≡ true → a ≡ b
equal a b e = grind (arith, nat_tests)

-- the places of a row stand behind those of the rows before it
later : (cols : ℕ) (x y : Entry) → x.j < cols → earlier x y ≡ true → x.i * cols + x.j < y.i * cols + y.j
later cols x y h e = by_case (or_cases (nat_lt x.i y.i) (nat_eq x.i y.i && nat_lt x.j y.j) e)
  where
    by_case : (nat_lt x.i y.i ≡ true) ⊎ ((nat_eq x.i y.i && nat_lt x.j y.j) ≡ true) → x.i * cols + x.j < y.i * cols + y.j
    by_case (inl a) = omega (arith, mul-le (suc x.i) cols y.i cols (omega (arith, below x.i y.i a)) (omega arith), h)
    by_case (inr a) =
        let both = and_parts (nat_eq x.i y.i) (nat_lt x.j y.j) a in
        omega (arith, ap (λ (i : ℕ). i * cols) (equal x.i y.i both.0), below x.j y.j both.1)

-- where no entry stands at one of the first places
from-place : (s : Shape) (first : ℕ) (m : List Entry) → RowMajor m → ((x : Entry) → Mem x m → x.i < s.rows) → ((x : Entry) → Mem x m → x.j < s.cols)
    → ((x : Entry) → Mem x m → first ≤ x.i * s.cols + x.j) → first ≤ s.rows * s.cols → length m + first ≤ s.rows * s.cols
from-place s first [] sorted rows cols behind fits = omega (arith, fits)
from-place s first (x ∷ m) sorted rows cols behind fits =
    let inside : x.i * s.cols + x.j < s.cols * s.rows = mul-add-lt x.i s.cols x.j s.rows (rows x (inl refl)) (cols x (inl refl)) in
    let there : suc (x.i * s.cols + x.j) ≤ s.rows * s.cols = omega (arith, inside, mul_comm s.cols s.rows) in
    let rest = from-place s (suc (x.i * s.cols + x.j)) m sorted.1 (λ y k. rows y (inr k)) (λ y k. cols y (inr k)) (λ y k. omega (arith, later s.cols x y (cols x (inl refl)) (sorted.0 y k))) there in
    omega (arith, rest, behind x (inl refl))

pub few-entries : (s : Shape) (m : List Entry) → IsMatrixOf s m → length m ≤ s.rows * s.cols
few-entries s m im =
    omega (arith, from-place s 0 m (row-major m im.sorted) (λ x h. all-Mem (λ (x : Entry). x.i < s.rows) m x im.rows h) (λ x h. all-Mem (λ (x : Entry). x.j < s.cols) m x im.cols h) (λ x h. omega arith) (omega arith))
