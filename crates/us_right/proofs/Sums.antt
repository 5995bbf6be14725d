-- Sums of products, and the steps of all pieces together.
use Rattle.std.proofs.Common.{◌≡◌, ℕ, ◌+◌, ◌*◌, ◌≤◌, List, [], ◌∷◌, length, refl, arith, sum_by, mul-le-mul_right, mul-le-mul_left, inl, inr}
use Rattle.std.proofs.lemmas.List.Sums.{sum_by-cons}
use Rattle.us_format.proofs.Order.{Mem}

-- ---- sums over a list

one_more : (a x most sum sum_a sum_x : ℕ) → a ≤ most → sum ≤ sum_a + most * sum_x → a * (x + 1) + sum ≤ a + sum_a + most * (x + sum_x)
one_more a x most sum sum_a sum_x h k = let m : a * x ≤ most * x = mul-le-mul_right x h in omega (arith, m, k)

module _ {A : Type 0} where
  pub sum-both : (f g : A → ℕ) (ys : List A) → sum_by (λ y. f y + g y) ys ≡ sum_by f ys + sum_by g ys
  sum-both f g [] = refl
  sum-both f g (y ∷ ys) = omega (arith, sum_by-cons (λ z. f z + g z) y ys, sum_by-cons f y ys, sum_by-cons g y ys, sum-both f g ys)

  pub sum-times : (c : ℕ) (f : A → ℕ) (ys : List A) → sum_by (λ y. c * f y) ys ≡ c * sum_by f ys
  sum-times c f [] = omega arith
  sum-times c f (y ∷ ys) = times c (f y) (sum_by f ys) _ _ _ (sum_by-cons (λ z. c * f z) y ys) (sum_by-cons f y ys) (sum-times c f ys)
    where
      times : (c x s rest whole both : ℕ) → whole ≡ c * x + rest → both ≡ x + s → rest ≡ c * s → whole ≡ c * both
      times c x s rest whole both a b d = let e : c * both ≡ c * (x + s) = cc in omega (arith, a, d, e)

  pub sum-same : (c : ℕ) (ys : List A) → sum_by (λ y. c) ys ≡ length ys * c
  sum-same c [] = omega arith
  sum-same c (y ∷ ys) = omega (arith, sum_by-cons (λ (z : A). c) y ys, sum-same c ys)

  pub sum-less : (f g : A → ℕ) (ys : List A) → ((y : A) → Mem y ys → f y ≤ g y) → sum_by f ys ≤ sum_by g ys
  sum-less f g [] h = omega arith
  sum-less f g (y ∷ ys) h = omega (arith, sum_by-cons f y ys, sum_by-cons g y ys, h y (inl refl), sum-less f g ys (λ z i. h z (inr i)))

  -- products whose first factor is at most a number
  pub sum-products : (a x : A → ℕ) (most : ℕ) (ys : List A) → ((y : A) → Mem y ys → a y ≤ most) → sum_by (λ y. a y * (x y + 1)) ys ≤ sum_by a ys + most * sum_by x ys
  sum-products a x most [] h = omega arith
  sum-products a x most (y ∷ ys) h =
      let first : a y * (x y + 1) + sum_by (λ z. a z * (x z + 1)) ys ≤ a y + sum_by a ys + most * (x y + sum_by x ys)
      = one_more (a y) (x y) most (sum_by (λ z. a z * (x z + 1)) ys) (sum_by a ys) (sum_by x ys) (h y (inl refl)) (sum-products a x most ys (λ z i. h z (inr i))) in
      whole (sum_by-cons (λ z. a z * (x z + 1)) y ys) (sum_by-cons a y ys) (sum_by-cons x y ys) first
    where
      whole : {s sa sx p q r : ℕ} → s ≡ p → sa ≡ q → sx ≡ r → p ≤ q + most * r → s ≤ sa + most * sx
      whole {s} {sa} {sx} {p} {q} {r} e f g h = let z : most * sx ≡ most * r = cc in omega (arith, e, f, z, h)

-- ---- the bound

-- of k parts with l levels and q queries, h queries of the head, n entries, and what else stands for the target
pub target-few : (k h l q n size lanes all selected counted built : ℕ) → k ≤ 4 → k ≤ l → n + (size + lanes) ≤ all → 1 ≤ all → selected ≤ (1 + h) * all
    → counted ≤ k + q + (1 + q) * (n + (size + lanes)) → built ≤ k + l + q + (1 + l + q) * (n + size)
    → k * (32 * selected) + (32 * counted + 64 * built) ≤ 256 * ((1 + l + h + q) * all)
target-few k h l q n size lanes all selected counted built few some within one a b c =
    let sel : k * (32 * selected) ≤ 4 * (32 * selected) = mul-le-mul_right (32 * selected) few in
    let b1 : (1 + q) * (n + (size + lanes)) ≤ (1 + q) * all = mul-le-mul_left (1 + q) within in
    let c1 : (1 + l + q) * (n + size) ≤ (1 + l + q) * all = mul-le-mul_left (1 + l + q) (omega (arith, within)) in
    let each : (l + q) * 1 ≤ (l + q) * all = mul-le-mul_left (l + q) one in
    let levels : l * 1 ≤ l * all = mul-le-mul_left l one in
    omega (arith, sel, a, b, c, b1, c1, each, levels, some)

pub both-few : (lf qf l h q size all most target : ℕ) → size + 1 ≤ most → all ≤ most → target ≤ 256 * ((1 + l + h + q) * all)
    → 64 * ((1 + lf + qf) * (size + 1)) + target ≤ 256 * ((2 + (lf + l) + (qf + (h + q))) * most)
both-few lf qf l h q size all most target a b c =
    let x : (1 + lf + qf) * (size + 1) ≤ (1 + lf + qf) * most = mul-le-mul_left (1 + lf + qf) a in
    let y : (1 + l + h + q) * all ≤ (1 + l + h + q) * most = mul-le-mul_left (1 + l + h + q) b in
    omega (arith, x, y, c)
