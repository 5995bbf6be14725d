-- The sources of a run are the buffers of the matrix, and short.
use Rattle.std.proofs.Common.{◌≡◌, ℕ, zero, suc, ◌^◌, ◌<◌, ◌≤◌, List, [], ◌∷◌, length, ℤ, refl, arith, sum_by}
use Rattle.std.proofs.lemmas.List.Sums.{sum_by-cons}
use Rattle.us_format.specs.Lists.{nth}
use Rattle.us_format.specs.Matrix.{Shape, Entry}
use Rattle.us_format.specs.Declaration.{Declaration}
use Rattle.us_format.specs.Buffers.{buffers, size}
use Rattle.us_format.specs.Reading.{limit}
use Rattle.us_format.proofs.Sizes.{size-adds-lengths}
use Rattle.us_code.specs.Runs.{at_source}

pub source-is : (xs : List (List ℤ)) (k : ℕ) → at_source xs k ≡ nth xs k
source-is [] k = refl
source-is (x ∷ xs) zero = refl
source-is (x ∷ xs) (suc k) = source-is xs k

source_few : (xs : List (List ℤ)) (k : ℕ) → length (at_source xs k) ≤ sum_by (λ (ys : List ℤ). length ys) xs
source_few [] k = omega arith
source_few (x ∷ xs) zero = omega (arith, sum_by-cons (λ (ys : List ℤ). length ys) x xs)
source_few (x ∷ xs) (suc k) = omega (arith, sum_by-cons (λ (ys : List ℤ). length ys) x xs, source_few xs k)

pub sources-short : (s : Shape) (d : Declaration) (m : List Entry) → size s d m ≤ limit → (k : ℕ) → length (at_source (buffers s d m) k) < 2 ^ 63
sources-short s d m within k =
    let few : length (at_source (buffers s d m) k) ≤ 67108864 = omega (arith, within, source_few (buffers s d m) k, size-adds-lengths s d m) in
    omega (arith, few)
