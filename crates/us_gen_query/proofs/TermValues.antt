-- The values of terms, and the columns that they read.
use Rattle.std.proofs.Common.{◌≡◌, ℕ, zero, suc, ◌+◌, ◌*◌, ◌<◌, ◌≤◌, Bool, true, false, cond, eqb, ◌||◌, refl, ap, ap₂, ◌∙◌, subst, arith, List, length, get_or, ℤ, pos, ◌+ℤ◌, ◌-ℤ◌, w64}
use Rattle.std.specs.Int.{int_wrap, int_div_euclid, int_rem_euclid}
use Rattle.std.proofs.lemmas.Bool.{or_left, or_right}
use Rattle.std.proofs.lemmas.Bool.Decides.{nat_tests}
use Rattle.std.proofs.lemmas.Int.{int_wrap_fits}
use Rattle.us_expr.specs.Tree.{Tree, node_count, RowIndex, ColIndex, Number, Variable, Sum, Difference, Quotient, Remainder}
use Rattle.us_expr.specs.Value.{IsValid, IsWithin, value}
use Rattle.us_expr.proofs.Bounds.{sum_fits, difference_fits}
use Rattle.us_gen_query.specs.Terms.{reads, reading, point, TermsHaveValues, ReadsAreFew}

same : (c : ℕ) → eqb c c ≡ true
same c = grind (arith, nat_tests)

both : (vs : List ℤ) (a b : Tree) → IsWithin (length vs) a × IsWithin (length vs) b → 1 + node_count a + node_count b ≤ 32 → (IsValid vs a) × (IsValid vs b)
both vs a b w s = (record { small = omega (arith, s); within = w.0 }, record { small = omega (arith, s); within = w.1 })

cases : {P : Type 0} (x y : Bool) → x || y ≡ true → (x ≡ true → P) → (y ≡ true → P) → P
cases true y h f g = f refl
cases false y h f g = g h

pub terms_have_values : TermsHaveValues
terms_have_values env regs n i j vs RowIndex p v h = let e : n + 0 ≡ n = omega arith in subst (λ (r : ℕ). regs r ≡ i) e (h 0 refl)
terms_have_values env regs n i j vs ColIndex p v h = h 1 refl
terms_have_values env regs n i j vs (Number k) p v h = refl
terms_have_values env regs n i j vs (Variable k) p v h = h (k + 2) (same (k + 2)) ∙ at_variable k
  where
    at_variable : (k : ℕ) → point i j vs (k + 2) ≡ get_or vs k (pos 0)
    at_variable k = let e : suc (suc k) ≡ k + 2 = omega arith in subst (λ (x : ℕ). point i j vs x ≡ get_or vs k (pos 0)) e refl
terms_have_values env regs n i j vs (Sum a b) p v h =
    let w = both vs a b v.within v.small in
    ap₂ (λ (x y : ℤ). int_wrap w64 (x +ℤ y)) (terms_have_values env regs n i j vs a p w.0 (λ c r. h c (or_left (reads a c) (reads b c) r))) (terms_have_values env regs n i j vs b p w.1 (λ c r. h c (or_right (reads a c) (reads b c) r)))
    ∙ int_wrap_fits w64 (value i j vs a +ℤ value i j vs b) (sum_fits i j vs a b p v)
terms_have_values env regs n i j vs (Difference a b) p v h =
    let w = both vs a b v.within v.small in
    ap₂ (λ (x y : ℤ). int_wrap w64 (x -ℤ y)) (terms_have_values env regs n i j vs a p w.0 (λ c r. h c (or_left (reads a c) (reads b c) r))) (terms_have_values env regs n i j vs b p w.1 (λ c r. h c (or_right (reads a c) (reads b c) r)))
    ∙ int_wrap_fits w64 (value i j vs a -ℤ value i j vs b) (difference_fits i j vs a b p v)
terms_have_values env regs n i j vs (Quotient a k) p v h =
    ap (λ (x : ℤ). int_div_euclid x (pos k)) (terms_have_values env regs n i j vs a p (record { small = omega (arith, v.small); within = v.within.2 }) h)
terms_have_values env regs n i j vs (Remainder a k) p v h =
    ap (λ (x : ℤ). int_rem_euclid x (pos k)) (terms_have_values env regs n i j vs a p (record { small = omega (arith, v.small); within = v.within.2 }) h)

-- ---- how many columns are read

-- how many of the first w numbers pass a test
abbrev counts : (ℕ → Bool) → ℕ → ℕ
counts f zero = 0
counts f (suc c) = cond (f c) (counts f c + 1) (counts f c)

counts_is : (e : Tree) (w : ℕ) → reading e w ≡ counts (reads e) w
counts_is e zero = refl
counts_is e (suc c) = ap (λ (x : ℕ). cond (reads e c) (x + 1) x) (counts_is e c)

none : (w : ℕ) → counts (λ c. false) w ≡ 0
none zero = refl
none (suc c) = none c

-- no number below k is k
before : (k w : ℕ) → w ≤ k → counts (λ c. eqb c k) w ≡ 0
before k zero le = refl
before k (suc c) le =
    let other : eqb c k ≡ false = grind (arith, nat_tests) in
    ap (λ (b : Bool). cond b (counts (λ c. eqb c k) c + 1) (counts (λ c. eqb c k) c)) other ∙ before k c (omega (arith, le))

one : (k w : ℕ) → counts (λ c. eqb c k) w ≤ 1
one k zero = omega arith
one k (suc c) = case (eqb c k) refl (one k c)
  where
    case : (b : Bool) → eqb c k ≡ b → counts (λ c. eqb c k) c ≤ 1 → cond b (counts (λ c. eqb c k) c + 1) (counts (λ c. eqb c k) c) ≤ 1
    case true h le = let is : c ≡ k = grind (arith, nat_tests) in let z : counts (λ c. eqb c k) c ≡ 0 = before k c (omega (arith, is)) in omega (arith, z)
    case false h le = le

-- a number that passes one of two tests is counted at one of them
either : (f g : ℕ → Bool) (w : ℕ) → counts (λ c. f c || g c) w ≤ counts f w + counts g w
either f g zero = omega arith
either f g (suc c) = case (f c) (g c) (either f g c)
  where
    case : (p q : Bool) → counts (λ c. f c || g c) c ≤ counts f c + counts g c
        → cond (p || q) (counts (λ c. f c || g c) c + 1) (counts (λ c. f c || g c) c) ≤ cond p (counts f c + 1) (counts f c) + cond q (counts g c + 1) (counts g c)
    case true true le = omega (arith, le)
    case true false le = omega (arith, le)
    case false true le = omega (arith, le)
    case false false le = le

few : (e : Tree) (w : ℕ) → 2 * counts (reads e) w ≤ node_count e + 1
few RowIndex w = let h = one 0 w in omega (arith, h)
few ColIndex w = let h = one 1 w in omega (arith, h)
few (Number k) w = let h = none w in omega (arith, h)
few (Variable v) w = let h = one (v + 2) w in omega (arith, h)
few (Sum a b) w = let h = either (reads a) (reads b) w in let x = few a w in let y = few b w in omega (arith, h, x, y)
few (Difference a b) w = let h = either (reads a) (reads b) w in let x = few a w in let y = few b w in omega (arith, h, x, y)
few (Quotient a k) w = let x = few a w in omega (arith, x)
few (Remainder a k) w = let x = few a w in omega (arith, x)

pub reads_are_few : ReadsAreFew
reads_are_few e w = let h = few e w in let s = counts_is e w in omega (arith, h, s)

-- an expression over so many variables reads no column behind them
pub reads_within : (w : ℕ) (e : Tree) (c : ℕ) → IsWithin w e → reads e c ≡ true → c < w + 2
reads_within w RowIndex c i h = let is : c ≡ 0 = grind (arith, nat_tests) in omega (arith, is)
reads_within w ColIndex c i h = let is : c ≡ 1 = grind (arith, nat_tests) in omega (arith, is)
reads_within w (Number k) c i h = absurd cc
reads_within w (Variable v) c i h = let is : c ≡ v + 2 = grind (arith, nat_tests) in omega (arith, is, i)
reads_within w (Sum a b) c i h = cases (reads a c) (reads b c) h (reads_within w a c i.0) (reads_within w b c i.1)
reads_within w (Difference a b) c i h = cases (reads a c) (reads b c) h (reads_within w a c i.0) (reads_within w b c i.1)
reads_within w (Quotient a k) c i h = reads_within w a c i.2 h
reads_within w (Remainder a k) c i h = reads_within w a c i.2 h
