-- A value lies in its range.
use Rattle.std.proofs.Common.{eq-eqb, ◌≡◌, ℕ, ◌<◌, Bool, true, false, cond, ℤ, pos, ◌-ℤ◌, ◌≤ℤ◌, List, length, sym, refl, ◌∙◌, arith, int_eq}
use Rattle.std.proofs.lemmas.Int.{ints}
use Rattle.std.proofs.lemmas.Bool.{or_left, or_right}
use Rattle.std.proofs.lemmas.Bool.Decides.{Decides-int_eq}
use Rattle.std.specs.Int.{int_div_euclid, int_rem_euclid}
use Rattle.us_expr.specs.declared.ranges.Range.{Range}
use Rattle.us_expr.specs.Tree.{Tree, uses, RowIndex, ColIndex, Number, Variable, Sum, Difference, Quotient, Remainder}
use Rattle.us_expr.specs.Value.{value, IsWithin}
use Rattle.us_expr.specs.Range.{range, range_of_remainder, LiesIn, PointLiesIn}
use Rattle.us_expr.proofs.Floor.{floor_mono, rem_low, rem_high, rem_mono}

pub lies_rem : (z : ℤ) (r : Range) (k : ℕ) → 0 < k → LiesIn z r → LiesIn (int_rem_euclid z (pos k)) (range_of_remainder r k)
lies_rem z r k p h = go (int_eq (int_div_euclid r.lo (pos k)) (int_div_euclid r.hi (pos k))) refl
  where
    go : (b : Bool) → int_eq (int_div_euclid r.lo (pos k)) (int_div_euclid r.hi (pos k)) ≡ b
        → LiesIn (int_rem_euclid z (pos k)) (cond b (record { lo = int_rem_euclid r.lo (pos k); hi = int_rem_euclid r.hi (pos k) }) (record { lo = pos 0; hi = pos k -ℤ pos 1 }))
    go true e =
        let q : int_div_euclid r.lo (pos k) ≡ int_div_euclid r.hi (pos k) = (Decides-int_eq _ _).0 e in
        let l : int_div_euclid r.lo (pos k) ≤ℤ int_div_euclid z (pos k) = floor_mono r.lo z k p h.low in
        let m : int_div_euclid z (pos k) ≤ℤ int_div_euclid r.hi (pos k) = floor_mono z r.hi k p h.high in
        let same : int_div_euclid r.lo (pos k) ≡ int_div_euclid z (pos k) = omega (arith, ints) in
        record { low = rem_mono r.lo z k p h.low same; high = rem_mono z r.hi k p h.high (sym same ∙ q) }
    go false e = record { low = rem_low z k p; high = rem_high z k p }

-- a point of an expression is one of each operand
pub lies_part : {m n : ℕ} {rs : List Range} {i j : ℤ} {vs : List ℤ} {e : Tree} (a : Tree) → PointLiesIn m n rs i j vs e → ((v : ℕ) → uses a v ≡ true → uses e v ≡ true) → PointLiesIn m n rs i j vs a
lies_part a p h = record { row = p.row; col = p.col; each = λ v u. p.each v (h v u) }

pub value_lies : (m n : ℕ) (rs : List Range) (i j : ℤ) (vs : List ℤ) (e : Tree) → PointLiesIn m n rs i j vs e → IsWithin (length vs) e → LiesIn (value i j vs e) (range m n rs e)
value_lies m n rs i j vs RowIndex p w = p.row
value_lies m n rs i j vs ColIndex p w = p.col
value_lies m n rs i j vs (Number c) p w = record { low = omega (arith, ints); high = omega (arith, ints) }
value_lies m n rs i j vs (Variable v) p w = p.each v (eq-eqb v v refl)
value_lies m n rs i j vs (Sum a b) p w =
    let x = value_lies m n rs i j vs a (lies_part a p (λ v u. or_left (uses a v) (uses b v) u)) w.0 in
    let y = value_lies m n rs i j vs b (lies_part b p (λ v u. or_right (uses a v) (uses b v) u)) w.1 in
    record { low = omega (arith, ints, x.low, y.low); high = omega (arith, ints, x.high, y.high) }
value_lies m n rs i j vs (Difference a b) p w =
    let x = value_lies m n rs i j vs a (lies_part a p (λ v u. or_left (uses a v) (uses b v) u)) w.0 in
    let y = value_lies m n rs i j vs b (lies_part b p (λ v u. or_right (uses a v) (uses b v) u)) w.1 in
    record { low = omega (arith, ints, x.low, y.high); high = omega (arith, ints, x.high, y.low) }
value_lies m n rs i j vs (Quotient a k) p w =
    let x = value_lies m n rs i j vs a (lies_part a p (λ v u. u)) w.2 in
    record { low = floor_mono _ _ k w.0 x.low; high = floor_mono _ _ k w.0 x.high }
value_lies m n rs i j vs (Remainder a k) p w = lies_rem _ (range m n rs a) k w.0 (value_lies m n rs i j vs a (lies_part a p (λ v u. u)) w.2)
