-- The weights of different indices add up to at most the number of entries.
use Rattle.std.proofs.Common.{◌≡◌, ℕ, ◌+◌, ◌≤◌, List, [], ◌∷◌, length, Bool, true, false, cond, eqb, sym, refl, ap, ◌∙◌, subst, arith, count_by, eqb-true}
use Rattle.std.specs.List.{sum_by}
use Rattle.std.proofs.lemmas.Bool.{ne_eqb}
use Rattle.std.proofs.lemmas.List.Sums.{sum_by-cons}
use Rattle.us_expr.specs.declared.queries.Axis.{Axis}
use Rattle.us_format.proofs.Collect.{Distinct}
use Rattle.us_format.proofs.Counting.{count-cons}
use Rattle.us_format.proofs.Order.{Mem}
use Rattle.us_format.specs.Matrix.{Entry, index_at}
use Rattle.us_format.specs.Queries.{weight}
use Rattle.us_query.proofs.EntryCounts.{count-none}

at-most-once : (i : ℕ) (xs : List ℕ) → Distinct xs → count_by (λ a. eqb i a) xs ≤ 1
at-most-once i [] d = omega arith
at-most-once i (x ∷ xs) d = go (eqb i x) refl (at-most-once i xs d.1)
  where
    go : (t : Bool) → eqb i x ≡ t → count_by (λ a. eqb i a) xs ≤ 1 → count_by (λ a. eqb i a) (x ∷ xs) ≤ 1
    go true e ih =
        let q : i ≡ x = eqb-true i x e in
        let one : ◌≡◌ {A = ℕ} (cond (eqb i x) 1 0) 1 = ap (λ (t : Bool). cond t 1 0) e in
        omega (arith, count-cons (λ a. eqb i a) x xs, one, count-none (λ a. eqb i a) xs (λ a ma. ne_eqb i a (λ r. d.0 (subst (λ (z : ℕ). Mem z xs) (sym r ∙ q) ma))))
    go false e ih =
        let no : ◌≡◌ {A = ℕ} (cond (eqb i x) 1 0) 0 = ap (λ (t : Bool). cond t 1 0) e in
        omega (arith, count-cons (λ a. eqb i a) x xs, no, ih)

none-weigh : (axis : Axis) (xs : List ℕ) → sum_by (weight [] axis) xs ≡ 0
none-weigh axis [] = refl
none-weigh axis (x ∷ xs) = omega (arith, sum_by-cons (weight [] axis) x xs, none-weigh axis xs)

one-more : (y : Entry) (m : List Entry) (axis : Axis) (xs : List ℕ) → sum_by (weight (y ∷ m) axis) xs ≡ count_by (λ a. eqb (index_at axis y) a) xs + sum_by (weight m axis) xs
one-more y m axis [] = refl
one-more y m axis (x ∷ xs) =
    omega (
      arith,
      sum_by-cons (weight (y ∷ m) axis) x xs,
      sum_by-cons (weight m axis) x xs,
      count-cons (λ a. eqb (index_at axis y) a) x xs,
      count-cons (λ z. eqb (index_at axis z) x) y m,
      one-more y m axis xs,
    )

pub weights-total : (m : List Entry) (axis : Axis) (xs : List ℕ) → Distinct xs → sum_by (weight m axis) xs ≤ length m
weights-total [] axis xs d = omega (arith, none-weigh axis xs)
weights-total (y ∷ m) axis xs d = omega (arith, one-more y m axis xs, at-most-once (index_at axis y) xs d, weights-total m axis xs d)
