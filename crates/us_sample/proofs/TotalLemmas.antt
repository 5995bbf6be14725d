-- Sums of values, and the pieces of a line.
use Rattle.std.proofs.Common.{◌≡◌, ℕ, ◌+◌, ◌%◌, ◌^◌, ◌<◌, List, length, take, get_or, sum_by, sym, ap, ◌∙◌}
use Rattle.std.proofs.Math.Nat.{mod-add-mod}
use Rattle.std.proofs.lemmas.List.Sums.{sum_by_more}
use Rattle.us_matrix.specs.declared.matrix.Triple.{Triple}
use Rattle.us_sample.specs.Totals.{bits_of}

-- one value more
pub sum_more : (xs : List Triple) (k : ℕ) (d : Triple) (s b : ℕ) → k < length xs → s ≡ sum_by bits_of (take k xs) % 2 ^ 64 → b ≡ bits_of (get_or xs k d)
    → (s + b) % 2 ^ 64 ≡ sum_by bits_of (take (k + 1) xs) % 2 ^ 64
sum_more xs k d s b h e f =
    ap (λ n. (n + b) % 2 ^ 64) e ∙ mod-add-mod (sum_by bits_of (take k xs)) (2 ^ 64) b ∙ ap (λ n. (sum_by bits_of (take k xs) + n) % 2 ^ 64) f
    ∙ sym (ap (λ n. n % 2 ^ 64) (sum_by_more bits_of xs k d h))
