-- Tests and options.
use Rattle.std.proofs.Common.{◌≡◌, Bool, true, false, ◌&&◌, refl, sym, ◌∙◌, cond, List, [], ◌∷◌, ◌++◌, ◌⊎◌, inl, inr, Option, Some, None, ap}

pub and_left : (a b : Bool) → (a && b) ≡ true → a ≡ true
and_left true b e = refl
and_left false b e = e

pub and_right : (a b : Bool) → (a && b) ≡ true → b ≡ true
and_right true b e = e
and_right false b e = absurd cc

pub both : (a b : Bool) → a ≡ true → b ≡ true → (a && b) ≡ true
both true b e h = h
both false b e h = e

pub clash : {A : Type 0} → (b : Bool) → b ≡ true → b ≡ false → A
clash b e h = absurd cc

pub some_is : {S : Type 0} (a b : S) → Some a ≡ Some b → a ≡ b
some_is a b e = cc

pub some_none : {A S : Type 0} (a : S) (o : Option S) → o ≡ Some a → o ≡ None → A
some_none a o e h = absurd cc
