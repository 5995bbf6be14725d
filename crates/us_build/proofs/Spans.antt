-- How many numbers a range has.
use Rattle.std.proofs.Common.{◌≡◌, ℕ, ◌^◌, ◌<◌, List, ℤ, pos, negsuc, ◌+ℤ◌, ◌-ℤ◌, ◌≤ℤ◌, ◌<ℤ◌, nat_abs, refl, arith}
use Rattle.std.proofs.lemmas.Int.{ints}
use Rattle.us_expr.specs.Range.{IsNear, IsRangeable, range}
use Rattle.us_expr.specs.Tree.{Tree}
use Rattle.us_expr.specs.declared.ranges.Range.{Range}
use Rattle.us_expr.proofs.Bounds.{near_more, range_near}
use Rattle.us_format.specs.Coordinates.{span}
use Rattle.us_format.specs.Lists.{nat_of}

pub nat-abs-of : (z : ℤ) → pos 0 ≤ℤ z → nat_abs z ≡ nat_of z
nat-abs-of (pos n) h = refl
nat-abs-of (negsuc n) h = absurd (omega (arith, ints, h))

pub pos-nat_of : (z : ℤ) → pos 0 ≤ℤ z → pos (nat_of z) ≡ z
pos-nat_of (pos n) h = refl
pos-nat_of (negsuc n) h = absurd (omega (arith, ints, h))

pub nat_of-none : (z : ℤ) → z ≤ℤ pos 0 → nat_of z ≡ 0
nat_of-none (pos n) h = omega (arith, ints, h)
nat_of-none (negsuc n) h = refl

-- a range that ends before it begins has no number
pub span-none : (r : Range) → r.hi <ℤ r.lo → span r ≡ 0
span-none r h = nat_of-none ((r.hi +ℤ pos 1) -ℤ r.lo) (omega (arith, ints, h))

pub ends-near : (m n : ℕ) (rs : List Range) (e : Tree) → m < 2 ^ 31 → n < 2 ^ 31 → IsRangeable rs e → (IsNear 68719476736 (range m n rs e).lo) × (IsNear 68719476736 (range m n rs e).hi)
ends-near m n rs e hm hn h =
    let r = range_near m n rs e hm hn (λ v l. (h.low v l, h.high v l)) h.within in
    (near_more _ 68719476736 _ (omega (arith, h.small)) r.0, near_more _ 68719476736 _ (omega (arith, h.small)) r.1)
