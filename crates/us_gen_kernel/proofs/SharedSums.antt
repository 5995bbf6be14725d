-- The sum over the entries of a matrix is that over the entries of its parts.
use Rattle.std.proofs.Common.{◌≡◌, ◌+◌, ℤ, pos, ◌+ℤ◌, List, [], ◌∷◌, length, Bool, true, false, not, cond, filter, refl, sym, ap, ◌∙◌, arith}
use Rattle.std.proofs.Math.IntN.{+ℤ_assoc, +ℤ_comm, +ℤ_idr}
use Rattle.us_expr.specs.declared.queries.Cond.{Cond}
use Rattle.us_format.specs.Matrix.{Shape, Entry}
use Rattle.us_format.specs.Declaration.{Part}
use Rattle.us_format.specs.Buffers.{shares}
use Rattle.us_gen_places.specs.declared.start.PartStart.{PartStart}
use Rattle.us_gen_places.specs.Dims.{next_start}
use Rattle.us_gen_unpack.specs.declared.listing.PartWalk.{PartWalk}
use Rattle.us_gen_parts.specs.Walks.{AreWalksOf, listed}
use Rattle.us_gen_product.specs.Dense.{sum_over}
use Rattle.us_gen_product.specs.Runs.{sum_of_parts}
use Rattle.us_gen_kernel.proofs.PartsListed.{of_parts}

-- the entries that pass a test, and the others
sum-filter : (f : Entry → ℤ) (test : Entry → Bool) (m : List Entry) → sum_over f (filter test m) +ℤ sum_over f (filter (λ x. not (test x)) m) ≡ sum_over f m
sum-filter f test [] = refl
sum-filter f test (y ∷ ys) = go (test y) (sum-filter f test ys)
  where
    go : (b : Bool) → sum_over f (filter test ys) +ℤ sum_over f (filter (λ x. not (test x)) ys) ≡ sum_over f ys
        → sum_over f (cond b (y ∷ filter test ys) (filter test ys)) +ℤ sum_over f (cond (not b) (y ∷ filter (λ x. not (test x)) ys) (filter (λ x. not (test x)) ys)) ≡ f y +ℤ sum_over f ys
    go true h = +ℤ_assoc (f y) (sum_over f (filter test ys)) (sum_over f (filter (λ x. not (test x)) ys)) ∙ ap (λ (z : ℤ). f y +ℤ z) h
    go false h =
        sym (+ℤ_assoc (sum_over f (filter test ys)) (f y) (sum_over f (filter (λ x. not (test x)) ys)))
        ∙ (ap (λ (z : ℤ). z +ℤ sum_over f (filter (λ x. not (test x)) ys)) (+ℤ_comm (sum_over f (filter test ys)) (f y))
        ∙ (+ℤ_assoc (f y) (sum_over f (filter test ys)) (sum_over f (filter (λ x. not (test x)) ys)) ∙ ap (λ (z : ℤ). f y +ℤ z) h))

-- the sum over pairs of a part and its entries
abbrev sum_of_pairs : (Entry → ℤ) → List (Part × List Entry) → ℤ
sum_of_pairs f [] = pos 0
sum_of_pairs f (y ∷ ys) = sum_over f y.1 +ℤ sum_of_pairs f ys

sum-shares : (f : Entry → ℤ) (test : Cond → Entry → Bool) (cs : List Cond) (ps : List Part) (m : List Entry) → length ps ≡ length cs + 1 → sum_of_pairs f (shares test cs ps m) ≡ sum_over f m
sum-shares f test [] [] m h = absurd (omega (arith, h))
sum-shares f test (c ∷ cs) [] m h = absurd (omega (arith, h))
sum-shares f test [] (p ∷ ps) m h = +ℤ_idr (sum_over f m)
sum-shares f test (c ∷ cs) (p ∷ ps) m h =
    ap (λ (z : ℤ). sum_over f (filter (test c) m) +ℤ z) (sum-shares f test cs ps (filter (λ x. not (test c x)) m) (omega (arith, h)))
    ∙ sum-filter f (test c) m

sum-listed : (f : Entry → ℤ) (a : PartStart) (s : Shape) (xs : List PartWalk) (ys : List (Part × List Entry)) → AreWalksOf a s (of_parts ys) xs → sum_of_parts f (listed xs ys) ≡ sum_of_pairs f ys
sum-listed f a s [] [] w = refl
sum-listed f a s (x ∷ xs) [] w = absurd w
sum-listed f a s [] (y ∷ ys) w = absurd w
sum-listed f a s (x ∷ xs) (y ∷ ys) w = ap (λ (z : ℤ). sum_over f y.1 +ℤ z) (sum-listed f (next_start a y.0) s xs ys w.1)

pub sum-parts : (f : Entry → ℤ) (a : PartStart) (s : Shape) (xs : List PartWalk) (test : Cond → Entry → Bool) (cs : List Cond) (ps : List Part) (m : List Entry)
    → length ps ≡ length cs + 1 → AreWalksOf a s (of_parts (shares test cs ps m)) xs → sum_of_parts f (listed xs (shares test cs ps m)) ≡ sum_over f m
sum-parts f a s xs test cs ps m h w = sum-listed f a s xs (shares test cs ps m) w ∙ sum-shares f test cs ps m h
