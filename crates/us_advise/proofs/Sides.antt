-- What holds of each side of a block, by cases.
use Rattle.std.proofs.Common.{ℕ, zero, suc, ◌≤◌, arith}

pub each_side : (P : ℕ → Type 0) → P 1 → P 2 → P 3 → P 4 → P 5 → P 6 → P 7 → P 8 → (n : ℕ) → 1 ≤ n → n ≤ 8 → P n
each_side P a b c d e f g h zero low high = absurd (omega (arith, low))
each_side P a b c d e f g h (suc zero) low high = a
each_side P a b c d e f g h (suc (suc zero)) low high = b
each_side P a b c d e f g h (suc (suc (suc zero))) low high = c
each_side P a b c d e f g h (suc (suc (suc (suc zero)))) low high = d
each_side P a b c d e f g h (suc (suc (suc (suc (suc zero))))) low high = e
each_side P a b c d e f g h (suc (suc (suc (suc (suc (suc zero)))))) low high = f
each_side P a b c d e f g h (suc (suc (suc (suc (suc (suc (suc zero))))))) low high = g
each_side P a b c d e f g h (suc (suc (suc (suc (suc (suc (suc (suc zero)))))))) low high = h
each_side P a b c d e f g h (suc (suc (suc (suc (suc (suc (suc (suc (suc n))))))))) low high = absurd (omega (arith, high))
