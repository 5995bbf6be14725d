-- A piece of two lists side by side that lies in one of them.
use Rattle.std.proofs.Common.{◌≡◌, ℕ, ◌+◌, ◌-◌, ◌≤◌, List, ◌++◌, length, take, drop, sym, ap, ◌∙◌, arith}
use lib.ListN.{length-drop, take-append-drop}
use lib.Seq.{drop-append-add}
use Rattle.std.proofs.lemmas.List.{take-append-le, drop-append-le, length-take-le}

pub front_piece : (a b : List ℕ) (p k : ℕ) → p + k ≤ length a → take k (drop p (a ++ b)) ≡ take k (drop p a)
front_piece a b p k fits = ap (take k) (drop-append-le p a b (omega (arith, fits))) ∙ take-append-le k (drop p a) b (omega (arith, fits, length-drop p a))

pub back_piece : (a b : List ℕ) (p k : ℕ) → length a ≤ p → take k (drop p (a ++ b)) ≡ take k (drop (p - length a) b)
back_piece a b p k far =
    let split : p ≡ length a + (p - length a) = omega (arith, far) in ap (λ (m : ℕ). take k (drop m (a ++ b))) split ∙ ap (take k) (drop-append-add a b (p - length a))

pub inner_piece : (l : List ℕ) (c p k : ℕ) → c ≤ length l → p + k ≤ c → take k (drop p (take c l)) ≡ take k (drop p l)
inner_piece l c p k within fits =
    sym (front_piece (take c l) (drop c l) p k (omega (arith, fits, within, length-take-le c l within))) ∙ ap (λ (m : List ℕ). take k (drop p m)) (take-append-drop c l)
