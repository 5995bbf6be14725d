-- A column that gets a number at each place of an order is full.
use Rattle.std.proofs.Common.{◌≡◌, ℕ, zero, suc, ◌<◌, ◌≤◌, ◌⊎◌, List, Bool, cond, sym, ap, ◌∙◌, subst, inl, inr, arith, eq-eqb}
use Rattle.std.proofs.lemmas.Bool.{cases_eq, cases_lt, ne_eqb}
use Rattle.us_query_loops.specs.Runs.{filled_at}
use Rattle.us_query_loops.specs.Sorted.{IsOrder, place_at}

module _ (n : ℕ) (places : List ℕ) (once : IsOrder n places) (f : ℕ → ℕ) where
  pub filled-is : (k : ℕ) → k ≤ n → (x : ℕ) → x < k → filled_at places f k (place_at places x) ≡ f x
  filled-is zero h x l = absurd (omega (arith, l))
  filled-is (suc k) h x l = go (cases_eq k x) (filled-is k (omega (arith, h)) x)
    where
      go : ((k ≡ x) ⊎ (k ≡ x → ⊥)) → (x < k → filled_at places f k (place_at places x) ≡ f x) → filled_at places f (suc k) (place_at places x) ≡ f x
      go (inl e) ih = ap (λ (b : Bool). cond b (f k) (filled_at places f k (place_at places x))) (eq-eqb _ _ (ap (place_at places) e)) ∙ ap f e
      go (inr n) ih =
          ap (λ (b : Bool). cond b (f k) (filled_at places f k (place_at places x))) (ne_eqb _ _ (λ q. n (once.apart k x (omega (arith, h)) (omega (arith, l, h)) q)))
          ∙ ih (at (cases_lt x k))
        where
          at : ((x < k) ⊎ (k ≤ x)) → x < k
          at (inl p) = p
          at (inr p) = absurd (n (omega (arith, l, p)))

  -- what holds of each number at its place holds of the column
  pub filled-all : (P : ℕ → ℕ → Type 0) → ((x : ℕ) → x < n → P (place_at places x) (f x)) → (y : ℕ) → y < n → P y (filled_at places f n y)
  filled-all P h y l =
      let r = once.each y l in
      subst (λ (z : ℕ). P z (filled_at places f n z)) r.2 (subst (λ (v : ℕ). P (place_at places r.0) v) (sym (filled-is n (omega arith) r.0 r.1)) (h r.0 r.1))
