-- The list of the values of a function.
use Rattle.std.proofs.Common.{◌≡◌, ℕ, zero, suc, ◌<◌, ◌≢◌, List, [], ◌∷◌, length, map, get_or, set, replicate, refl, ap, ◌∙◌, arith}
use Rattle.us_raw.specs.Layout.{tabulate}

module _ {X : Type 0} where
  pub length-tabulate : (n : ℕ) (f : ℕ → X) → length (tabulate n f) ≡ n
  unfolding tabulate
  length-tabulate zero f = refl
  length-tabulate (suc n) f = ap suc (length-tabulate n (λ i. f (suc i)))

  pub get_or-tabulate : (n : ℕ) (f : ℕ → X) (i : ℕ) (d : X) → i < n → get_or (tabulate n f) i d ≡ f i
  unfolding tabulate
  get_or-tabulate zero f i d lt = absurd (omega arith)
  get_or-tabulate (suc n) f zero d lt = refl
  get_or-tabulate (suc n) f (suc i) d lt = get_or-tabulate n (λ i. f (suc i)) i d (omega arith)

  pub tabulate_same : (n : ℕ) (f g : ℕ → X) → ((i : ℕ) → i < n → f i ≡ g i) → tabulate n f ≡ tabulate n g
  unfolding tabulate
  tabulate_same zero f g same = refl
  tabulate_same (suc n) f g same =
      ap (λ (x : X). x ∷ tabulate n (λ i. f (suc i))) (same 0 (omega arith))
      ∙ ap (λ (xs : List X). g 0 ∷ xs) (tabulate_same n (λ i. f (suc i)) (λ i. g (suc i)) (λ i lt. same (suc i) (omega arith)))

  -- g differs from f at k alone
  pub tabulate_set : (n : ℕ) (f g : ℕ → X) (k : ℕ) → k < n → ((i : ℕ) → i < n → i ≢ k → g i ≡ f i) → tabulate n g ≡ set (tabulate n f) k (g k)
  unfolding tabulate
  tabulate_set zero f g k lt same = absurd (omega arith)
  tabulate_set (suc n) f g zero lt same =
      ap (λ (xs : List X). g 0 ∷ xs) (tabulate_same n (λ i. g (suc i)) (λ i. f (suc i)) (λ i below. same (suc i) (omega arith) (λ e. absurd (omega (arith, e)))))
  tabulate_set (suc n) f g (suc k) lt same =
      ap (λ (x : X). x ∷ tabulate n (λ i. g (suc i))) (same 0 (omega arith) (λ e. absurd (omega (arith, e))))
      ∙ ap (λ (xs : List X). f 0 ∷ xs) (tabulate_set n (λ i. f (suc i)) (λ i. g (suc i)) k (omega arith) (λ i below other. same (suc i) (omega arith) (λ e. other (omega (arith, e)))))

  pub tabulate_const : (n : ℕ) (f : ℕ → X) (x : X) → ((i : ℕ) → i < n → f i ≡ x) → tabulate n f ≡ replicate n x
  unfolding tabulate
  tabulate_const zero f x same = refl
  tabulate_const (suc n) f x same = λ j. same 0 (omega arith) j ∷ tabulate_const n (λ i. f (suc i)) x (λ i lt. same (suc i) (omega arith)) j

  pub tabulate_map : {Y : Type 0} (h : Y → X) (d : Y) (ys : List Y) → tabulate (length ys) (λ i. h (get_or ys i d)) ≡ map h ys
  unfolding tabulate
  tabulate_map h d [] = refl
  tabulate_map h d (y ∷ ys) = ap (λ (xs : List X). h y ∷ xs) (tabulate_map h d ys)
