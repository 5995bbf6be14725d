-- The value of an expression of n nodes is at most n * 2 ^ 31 in size.
use Rattle.std.proofs.Common.{ℕ, ◌+◌, ◌*◌, ◌/◌, ◌^◌, ◌<◌, ◌≤◌, ℤ, pos, negsuc, ◌+ℤ◌, ◌-ℤ◌, ◌≤ℤ◌, List, length, arith, FitsSigned, w64}
use Rattle.std.proofs.Math.Nat.{div-le_self}
use Rattle.std.proofs.lemmas.Int.{ints}
use Rattle.std.specs.Int.{int_div_euclid, int_rem_euclid}
use Rattle.us_expr.specs.Tree.{Tree, node_count, RowIndex, ColIndex, Number, Variable, Sum, Difference, Quotient, Remainder}
use Rattle.us_expr.specs.Value.{value, IsWithin, IsPoint, IsIndex, IsValid}
use Rattle.us_expr.specs.Range.{IsNear, IsRangeable, range, range_at, range_of_remainder}
use Rattle.us_expr.specs.declared.ranges.Range.{Range}
use Rattle.std.proofs.Common.{Bool, true, false, cond, int_eq}
use Rattle.us_expr.proofs.Floor.{rem_low, rem_high}

pub near_div : (b : ℕ) (z : ℤ) (k : ℕ) → IsNear b z → IsNear b (int_div_euclid z (pos k))
near_div b (pos a) k h = let l : a / k ≤ a = div-le_self a k in record { low = omega (arith, ints); high = omega (arith, ints, h.high) }
near_div b (negsuc a) k h = let l : a / k ≤ a = div-le_self a k in record { low = omega (arith, ints, h.low); high = omega (arith, ints) }

pub near_rem : (b : ℕ) (z : ℤ) (k : ℕ) → 0 < k → k ≤ b → IsNear b (int_rem_euclid z (pos k))
near_rem b z k p l = let lo : pos 0 ≤ℤ int_rem_euclid z (pos k) = rem_low z k p in let hi : int_rem_euclid z (pos k) ≤ℤ (pos k -ℤ pos 1) = rem_high z k p in
    record { low = omega (arith, ints); high = omega (arith, ints) }

pub near_index : (z : ℤ) → IsIndex z → IsNear (2 ^ 31) z
near_index z h = record { low = omega (arith, ints, h.0); high = omega (arith, ints, h.1) }

pub near_more : (a b : ℕ) (z : ℤ) → a ≤ b → IsNear a z → IsNear b z
near_more a b z l h = record { low = omega (arith, ints, h.low); high = omega (arith, ints, h.high) }

pub value_near : (i j : ℤ) (vs : List ℤ) (e : Tree) → IsPoint i j vs → IsWithin (length vs) e → IsNear (node_count e * 2 ^ 31) (value i j vs e)
value_near i j vs RowIndex p w = near_index i p.row
value_near i j vs ColIndex p w = near_index j p.col
value_near i j vs (Number c) p w = record { low = omega (arith, ints); high = omega (arith, ints) }
value_near i j vs (Variable n) p w = near_index _ (p.each n w)
value_near i j vs (Sum a b) p w =
    let x : IsNear (node_count a * 2 ^ 31) (value i j vs a) = value_near i j vs a p w.0 in
    let y : IsNear (node_count b * 2 ^ 31) (value i j vs b) = value_near i j vs b p w.1 in
    record { low = omega (arith, ints, x.low, y.low); high = omega (arith, ints, x.high, y.high) }
value_near i j vs (Difference a b) p w =
    let x : IsNear (node_count a * 2 ^ 31) (value i j vs a) = value_near i j vs a p w.0 in
    let y : IsNear (node_count b * 2 ^ 31) (value i j vs b) = value_near i j vs b p w.1 in
    record { low = omega (arith, ints, x.low, y.high); high = omega (arith, ints, x.high, y.low) }
value_near i j vs (Quotient a k) p w = near_more (node_count a * 2 ^ 31) ((1 + node_count a) * 2 ^ 31) _ (omega arith) (near_div _ _ k (value_near i j vs a p w.2))
value_near i j vs (Remainder a k) p w = near_rem ((1 + node_count a) * 2 ^ 31) _ k w.0 (omega (arith, w.1))

pub near_fits : (n : ℕ) (z : ℤ) → n ≤ 64 → IsNear (n * 2 ^ 31) z → FitsSigned w64 z
near_fits n (pos a) l h = record { sfits = omega (arith, ints, h.high) }
near_fits n (negsuc a) l h = record { sfits = omega (arith, ints, h.low) }

pub sum_fits : (i j : ℤ) (vs : List ℤ) (a b : Tree) → IsPoint i j vs → IsValid vs (Sum a b) → FitsSigned w64 (value i j vs a +ℤ value i j vs b)
sum_fits i j vs a b p v = near_fits (node_count (Sum a b)) _ (omega (arith, v.small)) (value_near i j vs (Sum a b) p v.within)

pub difference_fits : (i j : ℤ) (vs : List ℤ) (a b : Tree) → IsPoint i j vs → IsValid vs (Difference a b) → FitsSigned w64 (value i j vs a -ℤ value i j vs b)
difference_fits i j vs a b p v = near_fits (node_count (Difference a b)) _ (omega (arith, v.small)) (value_near i j vs (Difference a b) p v.within)

-- both ends are at most b in size
abbrev pub NearRange : ℕ → Range → Type 0
NearRange b r = (IsNear b r.lo) × (IsNear b r.hi)

pub near_cond : (b : ℕ) (t : Bool) (r s : Range) → NearRange b r → NearRange b s → NearRange b (cond t r s)
near_cond b true r s x y = x
near_cond b false r s x y = y

pub near_rem_range : (b : ℕ) (r : Range) (k : ℕ) → 0 < k → k ≤ b → NearRange b (range_of_remainder r k)
near_rem_range b r k p l =
    near_cond b (int_eq (int_div_euclid r.lo (pos k)) (int_div_euclid r.hi (pos k))) _ _ (near_rem b r.lo k p l, near_rem b r.hi k p l)
    (record { low = omega (arith, ints); high = omega (arith, ints) }, record { low = omega (arith, ints); high = omega (arith, ints) })

pub range_near : (m n : ℕ) (rs : List Range) (e : Tree) → m < 2 ^ 31 → n < 2 ^ 31
    → ((v : ℕ) → v < length rs → (IsNear (2 ^ 31) (range_at rs v).lo) × (IsNear (2 ^ 31) (range_at rs v).hi)) → IsWithin (length rs) e
    → (IsNear (node_count e * 2 ^ 31) (range m n rs e).lo) × (IsNear (node_count e * 2 ^ 31) (range m n rs e).hi)
range_near m n rs RowIndex hm hn p w = (record { low = omega (arith, ints); high = omega (arith, ints) }, record { low = omega (arith, ints); high = omega (arith, ints) })
range_near m n rs ColIndex hm hn p w = (record { low = omega (arith, ints); high = omega (arith, ints) }, record { low = omega (arith, ints); high = omega (arith, ints) })
range_near m n rs (Number c) hm hn p w = (record { low = omega (arith, ints); high = omega (arith, ints) }, record { low = omega (arith, ints); high = omega (arith, ints) })
range_near m n rs (Variable v) hm hn p w = p v w
range_near m n rs (Sum a b) hm hn p w =
    let x = range_near m n rs a hm hn p w.0 in let y = range_near m n rs b hm hn p w.1 in
    (record { low = omega (arith, ints, x.0.low, y.0.low); high = omega (arith, ints, x.0.high, y.0.high) }, record { low = omega (arith, ints, x.1.low, y.1.low); high = omega (arith, ints, x.1.high, y.1.high) })
range_near m n rs (Difference a b) hm hn p w =
    let x = range_near m n rs a hm hn p w.0 in let y = range_near m n rs b hm hn p w.1 in
    (record { low = omega (arith, ints, x.0.low, y.1.high); high = omega (arith, ints, x.0.high, y.1.low) }, record { low = omega (arith, ints, x.1.low, y.0.high); high = omega (arith, ints, x.1.high, y.0.low) })
range_near m n rs (Quotient a k) hm hn p w =
    let x = range_near m n rs a hm hn p w.2 in
    (near_more (node_count a * 2 ^ 31) ((1 + node_count a) * 2 ^ 31) _ (omega arith) (near_div _ _ k x.0), near_more (node_count a * 2 ^ 31) ((1 + node_count a) * 2 ^ 31) _ (omega arith) (near_div _ _ k x.1))
range_near m n rs (Remainder a k) hm hn p w = near_rem_range ((1 + node_count a) * 2 ^ 31) (range m n rs a) k w.0 (omega (arith, w.1))

pub add_ends : (m n : ℕ) (rs : List Range) (a b : Tree) → m < 2 ^ 31 → n < 2 ^ 31 → IsRangeable rs (Sum a b)
    → (FitsSigned w64 ((range m n rs a).lo +ℤ (range m n rs b).lo)) × (FitsSigned w64 ((range m n rs a).hi +ℤ (range m n rs b).hi))
add_ends m n rs a b hm hn h =
    let x = range_near m n rs (Sum a b) hm hn (λ v l. (h.low v l, h.high v l)) h.within in
    (near_fits (node_count (Sum a b)) _ (omega (arith, h.small)) x.0, near_fits (node_count (Sum a b)) _ (omega (arith, h.small)) x.1)

pub sub_ends : (m n : ℕ) (rs : List Range) (a b : Tree) → m < 2 ^ 31 → n < 2 ^ 31 → IsRangeable rs (Difference a b)
    → (FitsSigned w64 ((range m n rs a).lo -ℤ (range m n rs b).hi)) × (FitsSigned w64 ((range m n rs a).hi -ℤ (range m n rs b).lo))
sub_ends m n rs a b hm hn h =
    let x = range_near m n rs (Difference a b) hm hn (λ v l. (h.low v l, h.high v l)) h.within in
    (near_fits (node_count (Difference a b)) _ (omega (arith, h.small)) x.0, near_fits (node_count (Difference a b)) _ (omega (arith, h.small)) x.1)
