-- Marks, filled up, are counts.
use Rattle.std.proofs.Common.{◌≡◌, ◌≢◌, ℕ, zero, suc, ◌+◌, ◌-◌, ◌<◌, ◌≤◌, ◌⊎◌, inl, inr, Bool, true, false, cond, nat_lt, nat_eq, refl, sym, ap, ap₂, ◌∙◌, arith}
use Rattle.std.proofs.lemmas.Bool.{cases_eq, cases_lt}
use Rattle.std.proofs.lemmas.Bool.Decides.{nat_tests}
use Rattle.us_running.specs.Running.{counted, below, top, marked}
use Rattle.us_running.specs.Laws.{MarksFillUp}

module _ (new : ℕ → Bool) (at : ℕ → ℕ) where
  -- a cell is the count of nodes with a lower parent, or it is 0 and the cell before it has that count
  abbrev pub Mark : ℕ → ℕ → Type 0
  Mark n p = (marked new at n p ≡ below new at n p) ⊎ ((marked new at n p ≡ 0) × (below new at n p ≡ below new at n (p - 1)))

  below_step : (n p q : ℕ) → p ≤ q → below new at n p ≤ below new at n q
  below_step zero p q le = omega arith
  below_step (suc n) p q le = case (below_step n p q le) (new n) (cases_lt (at n) p) (cases_lt (at n) q)
    where
      yes_ : (p : ℕ) → at n < p → nat_lt (at n) p ≡ true
      yes_ p h = grind (arith, nat_tests)

      no_ : (p : ℕ) → p ≤ at n → nat_lt (at n) p ≡ false
      no_ p h = grind (arith, nat_tests)

      c : (b : Bool) (p : ℕ) → nat_lt (at n) p ≡ b → cond (nat_lt (at n) p) (below new at n p + 1) (below new at n p) ≡ cond b (below new at n p + 1) (below new at n p)
      c b p e = ap (λ q. cond q (below new at n p + 1) (below new at n p)) e

      case : below new at n p ≤ below new at n q → (b : Bool) → (at n < p) ⊎ (p ≤ at n) → (at n < q) ⊎ (q ≤ at n) → cond b (cond (nat_lt (at n) p) (below new at n p + 1) (below new at n p)) (below new at n p) ≤ cond b (cond (nat_lt (at n) q) (below new at n q + 1) (below new at n q)) (below new at n q)
      case h false x y = h
      case h true (inl a) (inl b) = omega (arith, h, c true p (yes_ p a), c true q (yes_ q b))
      case h true (inl a) (inr b) = absurd (omega (arith, a, b, le))
      case h true (inr a) (inl b) = omega (arith, h, c false p (no_ p a), c true q (yes_ q b))
      case h true (inr a) (inr b) = omega (arith, h, c false p (no_ p a), c false q (no_ q b))

  pub below_all : (n p : ℕ) → ((y : ℕ) → y < n → at y < p) → below new at n p ≡ counted new n
  below_all zero p h = refl
  below_all (suc n) p h = let e : nat_lt (at n) p ≡ true = (let z = h n (omega arith) in grind (arith, nat_tests)) in let r = below_all n p (λ y g. h y (omega arith)) in ap (λ (b : Bool). cond (new n) (cond b (below new at n p + 1) (below new at n p)) (below new at n p)) e ∙ ap (λ (k : ℕ). cond (new n) (k + 1) k) r

  marked_none : (n p : ℕ) → ((y : ℕ) → y < n → at y + 1 < p) → marked new at n p ≡ 0
  marked_none zero p h = refl
  marked_none (suc n) p h = let e : nat_eq (at n + 1) p ≡ false = (let z = h n (omega arith) in grind (arith, nat_tests)) in ap (λ (b : Bool). cond (new n) (cond b (counted new (suc n)) (marked new at n p)) (marked new at n p)) e ∙ (same (new n) ∙ marked_none n p (λ y g. h y (omega arith)))
    where
      same : (b : Bool) → cond b (marked new at n p) (marked new at n p) ≡ marked new at n p
      same true = refl
      same false = refl

  below_yes : (n p : ℕ) → new n ≡ true → at n < p → below new at (suc n) p ≡ below new at n p + 1
  below_yes n p e lt = let l : nat_lt (at n) p ≡ true = grind (arith, nat_tests) in ap₂ (λ (a b : Bool). cond a (cond b (below new at n p + 1) (below new at n p)) (below new at n p)) e l

  below_no : (n p : ℕ) → new n ≡ true → p ≤ at n → below new at (suc n) p ≡ below new at n p
  below_no n p e le = let l : nat_lt (at n) p ≡ false = grind (arith, nat_tests) in ap₂ (λ (a b : Bool). cond a (cond b (below new at n p + 1) (below new at n p)) (below new at n p)) e l

  below_old : (n p : ℕ) → new n ≡ false → below new at (suc n) p ≡ below new at n p
  below_old n p e = ap (λ (a : Bool). cond a (cond (nat_lt (at n) p) (below new at n p + 1) (below new at n p)) (below new at n p)) e

  mark_at : (n p : ℕ) → new n ≡ true → at n + 1 ≡ p → marked new at (suc n) p ≡ counted new n + 1
  mark_at n p e q = let l : nat_eq (at n + 1) p ≡ true = grind (arith, nat_tests) in ap₂ (λ (a b : Bool). cond a (cond b (cond a (counted new n + 1) (counted new n)) (marked new at n p)) (marked new at n p)) e l

  mark_other : (n p : ℕ) → new n ≡ true → at n + 1 ≢ p → marked new at (suc n) p ≡ marked new at n p
  mark_other n p e q = let l : nat_eq (at n + 1) p ≡ false = grind (arith, nat_tests) in ap₂ (λ (a b : Bool). cond a (cond b (counted new (suc n)) (marked new at n p)) (marked new at n p)) e l

  mark_old : (n p : ℕ) → new n ≡ false → marked new at (suc n) p ≡ marked new at n p
  mark_old n p e = ap (λ (a : Bool). cond a (cond (nat_eq (at n + 1) p) (counted new (suc n)) (marked new at n p)) (marked new at n p)) e

  pub marks_are : (m : ℕ) → ((i j : ℕ) → i ≤ j → j < m → at i ≤ at j) → (n p : ℕ) → n ≤ m → Mark n p
  marks_are m rises zero p le = inl refl
  marks_are m rises (suc n) p le = case (marks_are m rises n p (omega (arith, le))) (new n) refl (cases_eq (at n + 1) p) (cases_lt (at n) p)
    where
      small : (q : ℕ) → at n < q → below new at n q ≡ counted new n
      small q lt = below_all n q (λ y g. let z = rises y n (omega arith) (omega (arith, le)) in omega (arith, z, lt))

      case : Mark n p → (b : Bool) → new n ≡ b → (at n + 1 ≡ p) ⊎ (at n + 1 ≢ p) → (at n < p) ⊎ (p ≤ at n) → Mark (suc n) p
      case (inl h) false e x y = inl (mark_old n p e ∙ (h ∙ sym (below_old n p e)))
      case (inr h) false e x y = inr (mark_old n p e ∙ h.0, below_old n p e ∙ (h.1 ∙ sym (below_old n (p - 1) e)))
      case h true e (inl x) y = inl (mark_at n p e x ∙ sym (below_yes n p e (omega (arith, x)) ∙ ap (λ (k : ℕ). k + 1) (small p (omega (arith, x)))))
      case (inl h) true e (inr x) (inr y) = inl (mark_other n p e x ∙ (h ∙ sym (below_no n p e y)))
      case (inr h) true e (inr x) (inr y) = inr (mark_other n p e x ∙ h.0, below_no n p e y ∙ (h.1 ∙ sym (below_no n (p - 1) e (omega (arith, y)))))
      case h true e (inr x) (inl y) = inr (
        mark_other n p e x ∙ marked_none n p (λ k g. let z = rises k n (omega arith) (omega (arith, le)) in omega (arith, z, x, y)),
        below_yes n p e y ∙ (ap (λ (k : ℕ). k + 1) (small p y ∙ sym (small (p - 1) (omega (arith, x, y)))) ∙ sym (below_yes n (p - 1) e (omega (arith, x, y)))),
      )

  pick : (k t r : ℕ) → (k < t → t ≡ r) → (t ≤ k → k ≡ r) → cond (nat_lt k t) t k ≡ r
  pick k t r f g = case (cases_lt k t)
    where
      case : (k < t) ⊎ (t ≤ k) → cond (nat_lt k t) t k ≡ r
      case (inl h) = let l : nat_lt k t ≡ true = grind (arith, nat_tests) in ap (λ (b : Bool). cond b t k) l ∙ f h
      case (inr h) = let l : nat_lt k t ≡ false = grind (arith, nat_tests) in ap (λ (b : Bool). cond b t k) l ∙ g h

  pub below_none : (n : ℕ) → below new at n 0 ≡ 0
  below_none zero = refl
  below_none (suc n) = let l : nat_lt (at n) 0 ≡ false = grind (arith, nat_tests) in ap (λ (b : Bool). cond (new n) (cond b (below new at n 0 + 1) (below new at n 0)) (below new at n 0)) l ∙ (same (new n) ∙ below_none n)
    where
      same : (b : Bool) → cond b (below new at n 0) (below new at n 0) ≡ below new at n 0
      same true = refl
      same false = refl

  -- the running maximum of the marks is how many nodes have a lower parent
  pub top_is : (n : ℕ) → ((i j : ℕ) → i ≤ j → j < n → at i ≤ at j) → (p : ℕ) → top (marked new at n) (suc p) ≡ below new at n p
  top_is n rises zero = case (marks_are n rises n 0 (omega arith))
    where
      case : Mark n 0 → cond (nat_lt (marked new at n 0) 0) 0 (marked new at n 0) ≡ below new at n 0
      case (inl h) = pick (marked new at n 0) 0 (below new at n 0) (λ l. absurd (omega (arith, l))) (λ l. h)
      case (inr h) = pick (marked new at n 0) 0 (below new at n 0) (λ l. absurd (omega (arith, l))) (λ l. h.0 ∙ sym (below_none n))
  top_is n rises (suc p) = case (top_is n rises p) (below_step n p (suc p) (omega arith)) (marks_are n rises n (suc p) (omega arith))
    where
      case : top (marked new at n) (suc p) ≡ below new at n p → below new at n p ≤ below new at n (suc p) → Mark n (suc p) → cond (nat_lt (marked new at n (suc p)) (top (marked new at n) (suc p))) (top (marked new at n) (suc p)) (marked new at n (suc p)) ≡ below new at n (suc p)
      case t le (inl h) = pick _ _ _ (λ l. absurd (omega (arith, l, t, le, h))) (λ l. h)
      case t le (inr h) = let e : below new at n (suc p - 1) ≡ below new at n p = ap (below new at n) (minus p) in pick _ _ _ (λ l. t ∙ sym (h.1 ∙ e)) (λ l. omega (arith, l, t, h.0, h.1, e))
        where
          minus : (k : ℕ) → suc k - 1 ≡ k
          minus k = omega arith

pub marks-fill-up : MarksFillUp
marks-fill-up new at n rises p = top_is new at n rises p
