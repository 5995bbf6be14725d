-- The order of signed numbers by its test.
use Rattle.std.proofs.Common.{◌≡◌, ℕ, Bool, true, false, cond, ltb, ℤ, pos, negsuc, sym, refl, ap, ◌∙◌, subst, arith, int_eq}
use Rattle.std.proofs.lemmas.Bool.Decides.{nat_tests, Decides-int_eq}
use lib.Signed.{lt_z}

lt-self : (a : ℕ) → ltb a a ≡ false
lt-self a = grind (arith, nat_tests)

lt-other : (a b : ℕ) → ltb a b ≡ true → ltb b a ≡ false
lt-other a b h = grind (arith, nat_tests)

lt-chain : (a b c : ℕ) → ltb b a ≡ false → ltb c b ≡ false → ltb c a ≡ false
lt-chain a b c h k = grind (arith, nat_tests)

lt-neither : (a b : ℕ) → ltb a b ≡ false → ltb b a ≡ false → a ≡ b
lt-neither a b h k = grind (arith, nat_tests)

pub less-self : (a : ℤ) → lt_z a a ≡ false
less-self (pos a) = lt-self a
less-self (negsuc a) = lt-self a

pub less-other : (a b : ℤ) → lt_z a b ≡ true → lt_z b a ≡ false
less-other (pos a) (pos b) h = lt-other a b h
less-other (pos a) (negsuc b) h = absurd (cc)
less-other (negsuc a) (pos b) h = refl
less-other (negsuc a) (negsuc b) h = lt-other b a h

-- a isn't above b, b isn't above c
pub less-chain : (a b c : ℤ) → lt_z b a ≡ false → lt_z c b ≡ false → lt_z c a ≡ false
less-chain (pos a) (pos b) (pos c) h k = lt-chain a b c h k
less-chain (pos a) (pos b) (negsuc c) h k = absurd (cc)
less-chain (pos a) (negsuc b) c h k = absurd (cc)
less-chain (negsuc a) (pos b) (pos c) h k = refl
less-chain (negsuc a) (pos b) (negsuc c) h k = absurd (cc)
less-chain (negsuc a) (negsuc b) (pos c) h k = refl
less-chain (negsuc a) (negsuc b) (negsuc c) h k = lt-chain c b a k h

pub less-neither : (a b : ℤ) → lt_z a b ≡ false → lt_z b a ≡ false → a ≡ b
less-neither (pos a) (pos b) h k = ap pos (lt-neither a b h k)
less-neither (pos a) (negsuc b) h k = absurd (cc)
less-neither (negsuc a) (pos b) h k = absurd (cc)
less-neither (negsuc a) (negsuc b) h k = ap negsuc (lt-neither a b k h)

pub same-yes : (a b : ℤ) → a ≡ b → int_eq a b ≡ true
same-yes a b e = (Decides-int_eq a b).1 e

pub same-told : (a b : ℤ) → int_eq a b ≡ true → a ≡ b
same-told a b e = (Decides-int_eq a b).0 e

pub same-no : (a b : ℤ) → (a ≡ b → ⊥) → int_eq a b ≡ false
same-no a b n = go (int_eq a b) refl
  where
    go : (t : Bool) → int_eq a b ≡ t → t ≡ false
    go true e = absurd (n (same-told a b e))
    go false e = refl

-- ---- by a key, then by what follows

pub by-first : (a b : ℤ) (r : Bool) → cond (lt_z a b) true (cond (lt_z b a) false r) ≡ true → lt_z b a ≡ false
by-first a b r h = go (lt_z a b) (lt_z b a) refl refl h
  where
    go : (p q : Bool) → lt_z a b ≡ p → lt_z b a ≡ q → cond p true (cond q false r) ≡ true → q ≡ false
    go true q e f h = sym f ∙ less-other a b e
    go false true e f h = absurd (cc)
    go false false e f h = refl

pub by-next : (a b : ℤ) (r : Bool) → a ≡ b → cond (lt_z a b) true (cond (lt_z b a) false r) ≡ true → r ≡ true
by-next a b r e h =
    sym (ap (λ (p : Bool). cond p true (cond p false r)) (less-self a))
    ∙ subst (λ (z : ℤ). cond (lt_z a z) true (cond (lt_z z a) false r) ≡ true) (sym e) h
