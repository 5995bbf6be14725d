-- The value of digits under a limit may be kept below it at each digit.
use Rattle.std.proofs.Common.{◌≡◌, ◌≤◌, ℕ, ◌+◌, ◌*◌, ◌-◌, List, [], ◌∷◌, min, sym, ap, ◌∙◌, arith, ◌⊎◌, inl, inr}
use Rattle.us_tokens.specs.Lex.{decimal_value}

-- more digits make no number smaller
pub decimal_value-above : (ds : List ℕ) (n : ℕ) → n ≤ decimal_value ds n
decimal_value-above [] n = omega arith
decimal_value-above (b ∷ bs) n = omega (arith, decimal_value-above bs (n * 10 + (b - 48)))

small : (n c : ℕ) → n ≤ c → min n c ≡ n
small n c h = omega arith

large : (n c : ℕ) → c ≤ n → min n c ≡ c
large n c h = omega arith

sides : (n c : ℕ) → (n ≤ c) ⊎ (c ≤ n)
sides n c = grind arith

pub capped : (ds : List ℕ) (n c : ℕ) → min (decimal_value ds (min n c)) c ≡ min (decimal_value ds n) c
capped ds n c = elim (sides n c) [
  | inl h ↦ ap (λ (m : ℕ). min (decimal_value ds m) c) (small n c h)
  | inr h ↦ ap (λ (m : ℕ). min (decimal_value ds m) c) (large n c h) ∙ large (decimal_value ds c) c (decimal_value-above ds c) ∙ sym (large (decimal_value ds n) c (omega (arith, decimal_value-above ds n)))
]

-- one digit more, as the code counts
pub capped_step : (ds : List ℕ) (n m c total : ℕ) → min (decimal_value ds n) c ≡ total → m ≡ min n c → min (decimal_value ds m) c ≡ total
capped_step ds n m c total e is = ap (λ (k : ℕ). min (decimal_value ds k) c) is ∙ capped ds n c ∙ e
