-- Sums of integers over lists of entries.
use Rattle.std.proofs.Common.{◌≡◌, ◌≢◌, ℤ, pos, ◌+ℤ◌, List, [], ◌∷◌, refl, sym, ap, ap₂, ◌∙◌, subst, inl, inr}
use Rattle.std.proofs.Math.IntN.{+ℤ_assoc, +ℤ_comm}
use Rattle.us_format.specs.Matrix.{Entry}
use Rattle.us_format.proofs.Order.{Mem}
use Rattle.us_format.proofs.Collect.{Distinct}
use Rattle.us_gen_product.specs.Dense.{sum_over}

pub sum-same : (f g : Entry → ℤ) (m : List Entry) → ((y : Entry) → Mem y m → f y ≡ g y) → sum_over f m ≡ sum_over g m
sum-same f g [] h = refl
sum-same f g (y ∷ ys) h = ap₂ (λ (a b : ℤ). a +ℤ b) (h y (inl refl)) (sum-same f g ys (λ z mz. h z (inr mz)))

pub sum-zero : (f : Entry → ℤ) (m : List Entry) → ((y : Entry) → Mem y m → f y ≡ pos 0) → sum_over f m ≡ pos 0
sum-zero f [] h = refl
sum-zero f (y ∷ ys) h = ap₂ (λ (a b : ℤ). a +ℤ b) (h y (inl refl)) (sum-zero f ys (λ z mz. h z (inr mz)))

pub swap_last : (a d b : ℤ) → (a +ℤ d) +ℤ b ≡ (a +ℤ b) +ℤ d
swap_last a d b = +ℤ_assoc a d b ∙ (ap (λ (z : ℤ). a +ℤ z) (+ℤ_comm d b) ∙ sym (+ℤ_assoc a b d))

-- one entry counts d more
pub sum-one : (f g : Entry → ℤ) (x : Entry) (d : ℤ) (m : List Entry) → Distinct m → Mem x m → ((y : Entry) → Mem y m → y ≢ x → f y ≡ g y) → f x ≡ g x +ℤ d → sum_over f m ≡ sum_over g m +ℤ d
sum-one f g x d [] di mx h e = absurd mx
sum-one f g x d (y ∷ ys) di (inl q) h e =
    let here : f y ≡ g y +ℤ d = subst (λ (z : Entry). f z ≡ g z +ℤ d) (sym q) e in
    let rest : sum_over f ys ≡ sum_over g ys = sum-same f g ys (λ z mz. h z (inr mz) (λ p. di.0 (subst (λ (w : Entry). Mem w ys) (p ∙ sym q) mz))) in
    ap₂ (λ (a b : ℤ). a +ℤ b) here rest ∙ swap_last (g y) d (sum_over g ys)
sum-one f g x d (y ∷ ys) di (inr mx) h e =
    let here : f y ≡ g y = h y (inl refl) (λ p. di.0 (subst (λ (w : Entry). Mem w ys) (sym p) mx)) in
    ap₂ (λ (a b : ℤ). a +ℤ b) here (sum-one f g x d ys di.1 mx (λ z mz n. h z (inr mz) n) e) ∙ sym (+ℤ_assoc (g y) (sum_over g ys) d)
