-- The search for the first lane of least load, and the greatest number where one grows.
use Rattle.std.specs.List.{IsFirstBest}
use Rattle.std.proofs.Common.{◌≡◌, ℕ, zero, suc, ◌<◌, ◌≤◌, ◌⊎◌, List, [], ◌∷◌, length, get_or, set, replicate, Bool, true, false, cond, ltb, nat_lt, max, fold, sym, refl, ap, ◌∙◌, subst, inl, inr, arith, ltb-true, ltb-false, lt-ltb, le-ltb}
use Rattle.std.proofs.lemmas.Bool.{cases_lt}
use Rattle.std.proofs.lemmas.List.{get_or_default}
use Rattle.us_query_loops.specs.Loads.{best_at, low_at}

-- b is the first of the first l lanes with the least load, which is low
pub record IsLeast (loads : List ℕ) (l b low : ℕ) : Type 0 where
  pub below : b < l
  pub is : low ≡ get_or loads b 0
  pub least : (k : ℕ) → k < l → low ≤ get_or loads k 0
  pub first : (k : ℕ) → k < b → low < get_or loads k 0

module _ (high : ℕ) (loads : List ℕ) where
  pub search-is : (l : ℕ) → ((k : ℕ) → k < suc l → get_or loads k 0 < high) → IsLeast loads (suc l) (best_at high loads (suc l)) (low_at high loads (suc l))
  search-is zero h =
      subst (λ (t : Bool). IsLeast loads 1 (cond t 0 0) (cond t (get_or loads 0 0) high)) (sym (lt-ltb (get_or loads 0 0) high (h 0 (omega arith))))
      (record {
        below = omega arith;
        is = refl;
        least = λ k l. let e : 0 ≡ k = omega (arith, l) in subst (λ (z : ℕ). get_or loads 0 0 ≤ get_or loads z 0) e (omega arith);
        first = λ k l. absurd (omega (arith, l));
      })
  search-is (suc l) h = go (ltb here low) refl (search-is l (λ k m. h k (omega (arith, m))))
    where
      here : ℕ
      here = get_or loads (suc l) 0

      low : ℕ
      low = low_at high loads (suc l)

      go : (t : Bool) → ltb (get_or loads (suc l) 0) (low_at high loads (suc l)) ≡ t → IsLeast loads (suc l) (best_at high loads (suc l)) (low_at high loads (suc l))
          → IsLeast loads (suc (suc l)) (cond (ltb (get_or loads (suc l) 0) (low_at high loads (suc l))) (suc l) (best_at high loads (suc l)))
          (cond (ltb (get_or loads (suc l) 0) (low_at high loads (suc l))) (get_or loads (suc l) 0) (low_at high loads (suc l)))
      go true e r =
          subst (λ (t : Bool). IsLeast loads (suc (suc l)) (cond t (suc l) (best_at high loads (suc l))) (cond t (get_or loads (suc l) 0) (low_at high loads (suc l)))) (sym e)
          (record { below = omega arith; is = refl; least = λ k m. at k m (cases_lt k (suc l)); first = λ k m. omega (arith, lower, r.least k m) })
        where
          lower : get_or loads (suc l) 0 < low_at high loads (suc l)
          lower = ltb-true (get_or loads (suc l) 0) (low_at high loads (suc l)) e

          at : (k : ℕ) → k < suc (suc l) → ((k < suc l) ⊎ (suc l ≤ k)) → get_or loads (suc l) 0 ≤ get_or loads k 0
          at k m (inl p) = omega (arith, lower, r.least k p)
          at k m (inr p) = let q : suc l ≡ k = omega (arith, m, p) in subst (λ (z : ℕ). get_or loads (suc l) 0 ≤ get_or loads z 0) q (omega arith)
      go false e r =
          subst (λ (t : Bool). IsLeast loads (suc (suc l)) (cond t (suc l) (best_at high loads (suc l))) (cond t (get_or loads (suc l) 0) (low_at high loads (suc l)))) (sym e)
          (record { below = omega (arith, r.below); is = r.is; least = λ k m. at k m (cases_lt k (suc l)); first = r.first })
        where
          at : (k : ℕ) → k < suc (suc l) → ((k < suc l) ⊎ (suc l ≤ k)) → low_at high loads (suc l) ≤ get_or loads k 0
          at k m (inl p) = r.least k p
          at k m (inr p) =
              let q : suc l ≡ k = omega (arith, m, p) in
              subst (λ (z : ℕ). low_at high loads (suc l) ≤ get_or loads z 0) q (ltb-false (get_or loads (suc l) 0) (low_at high loads (suc l)) e)

pub least-first : (loads : List ℕ) (b low : ℕ) → IsLeast loads (length loads) b low → IsFirstBest nat_lt loads (length loads) b
least-first loads b low r = (
  r.below,
  λ k d l. le-ltb (get_or loads k d) (get_or loads b d) (omega (arith, r.least k l, r.is, get_or_default loads k d 0 l, get_or_default loads b d 0 r.below)),
  λ k d l. lt-ltb (get_or loads b d) (get_or loads k d) (omega (arith, r.first k l, r.is, get_or_default loads k d 0 (omega (arith, l, r.below)), get_or_default loads b d 0 r.below)),
)

-- ---- the greatest number

swapped : (a b x : ℕ) → max (max a b) x ≡ max (max a x) b
swapped a b x = omega arith

max-out : (xs : List ℕ) (a b : ℕ) → fold max (max a b) xs ≡ max (fold max a xs) b
max-out [] a b = refl
max-out (x ∷ xs) a b = ap (λ (c : ℕ). fold max c xs) (swapped a b x) ∙ max-out xs (max a x) b

pub greatest-set : (xs : List ℕ) (p v a : ℕ) → p < length xs → get_or xs p 0 ≤ v → fold max a (set xs p v) ≡ max (fold max a xs) v
greatest-set [] p v a l h = absurd (omega (arith, l))
greatest-set (x ∷ xs) zero v a l h = omega (arith, max-out xs a v, max-out xs a x, h)
greatest-set (x ∷ xs) (suc p) v a l h = greatest-set xs p v (max a x) (omega (arith, l)) h

pub greatest-none : (n : ℕ) → fold max 0 (replicate n 0) ≡ 0
greatest-none zero = refl
greatest-none (suc n) = greatest-none n
