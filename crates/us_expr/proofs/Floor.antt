-- The floor quotient and the remainder by a positive number.
use Rattle.std.proofs.Common.{◌≡◌, ℕ, ◌*◌, ◌-◌, ◌/◌, ◌%◌, ◌<◌, ◌≤◌, ℤ, pos, negsuc, ◌-ℤ◌, ◌≤ℤ◌, ap, arith, mod-lt, div-add-mod'}
use Rattle.std.proofs.lemmas.Nat.{le-div}
use Rattle.std.proofs.Math.Nat.{div-mul-le_self}
use Rattle.std.proofs.lemmas.Int.{ints}
use Rattle.std.specs.Int.{int_div_euclid, int_rem_euclid}

pub div_mono : (a b k : ℕ) → 0 < k → a ≤ b → a / k ≤ b / k
div_mono a b k h l = le-div (a / k) b k h (omega (arith, div-mul-le_self a k))

pub pos_le : (a b : ℕ) → pos a ≤ℤ pos b → a ≤ b
pos_le = λ a b h. omega (arith, ints)

pub neg_le : (a b : ℕ) → negsuc a ≤ℤ negsuc b → b ≤ a
neg_le a b h = omega (arith, ints)

pub floor_mono : (y z : ℤ) (k : ℕ) → 0 < k → y ≤ℤ z → int_div_euclid y (pos k) ≤ℤ int_div_euclid z (pos k)
floor_mono (pos a) (pos b) k p h = let l : a / k ≤ b / k = div_mono a b k p (pos_le a b h) in omega (arith, ints)
floor_mono (pos a) (negsuc b) k p h = absurd (omega (arith, ints))
floor_mono (negsuc a) (pos b) k p h = omega (arith, ints)
floor_mono (negsuc a) (negsuc b) k p h = let l : b / k ≤ a / k = div_mono b a k p (neg_le a b h) in omega (arith, ints)

pub rem_low : (z : ℤ) (k : ℕ) → 0 < k → pos 0 ≤ℤ int_rem_euclid z (pos k)
rem_low (pos a) k p = omega (arith, ints)
rem_low (negsuc a) k p = omega (arith, ints)

pub rem_high : (z : ℤ) (k : ℕ) → 0 < k → int_rem_euclid z (pos k) ≤ℤ (pos k -ℤ pos 1)
rem_high (pos a) k p = let l : a % k < k = mod-lt a p in omega (arith, ints)
rem_high (negsuc a) k p = let l : a % k < k = mod-lt a p in omega (arith, ints)

-- numbers with one quotient have their remainders in their order
pub mod_mono : (a b k : ℕ) → a / k ≡ b / k → a ≤ b → a % k ≤ b % k
mod_mono a b k e l = omega (arith, div-add-mod' a k, div-add-mod' b k, ap (λ n. n * k) e)

pub rem_mono : (y z : ℤ) (k : ℕ) → 0 < k → y ≤ℤ z → int_div_euclid y (pos k) ≡ int_div_euclid z (pos k) → int_rem_euclid y (pos k) ≤ℤ int_rem_euclid z (pos k)
rem_mono (pos a) (pos b) k p h e = let l : a % k ≤ b % k = mod_mono a b k (cc) (pos_le a b h) in omega (arith, ints)
rem_mono (pos a) (negsuc b) k p h e = absurd (cc)
rem_mono (negsuc a) (pos b) k p h e = absurd (cc)
rem_mono (negsuc a) (negsuc b) k p h e =
    let q : b / k ≡ a / k = cc in
    let l : b % k ≤ a % k = mod_mono b a k q (neg_le a b h) in let m : a % k < k = mod-lt a p in let n : b % k < k = mod-lt b p in omega (arith, ints)

-- a quotient and a remainder tell the number
pub div_rem_same : (y z : ℤ) (k : ℕ) → 0 < k → int_div_euclid y (pos k) ≡ int_div_euclid z (pos k) → int_rem_euclid y (pos k) ≡ int_rem_euclid z (pos k) → y ≡ z
div_rem_same (pos a) (pos b) k p e f =
    let q : a / k ≡ b / k = cc in let r : a % k ≡ b % k = cc in
    ap pos (omega (arith, div-add-mod' a k, div-add-mod' b k, ap (λ n. n * k) q, r))
div_rem_same (pos a) (negsuc b) k p e f = absurd (cc)
div_rem_same (negsuc a) (pos b) k p e f = absurd (cc)
div_rem_same (negsuc a) (negsuc b) k p e f =
    let q : a / k ≡ b / k = cc in
    let g : k - 1 - a % k ≡ k - 1 - b % k = cc in
    let l : a % k < k = mod-lt a p in let m : b % k < k = mod-lt b p in
    ap negsuc (omega (arith, div-add-mod' a k, div-add-mod' b k, ap (λ n. n * k) q, g, l, m))
