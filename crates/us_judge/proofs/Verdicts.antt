-- Rules asked one after the other.
use Rattle.std.proofs.Common.{◌≡◌, ℕ, List, [], ◌∷◌, refl, ap, ◌∙◌}
use Rattle.std.specs.Prelude.{Option, Some, None}
use Rattle.us_format.specs.Lists.{or_else, first_of}
use Rattle.us_judge.specs.declared.refusal.Refusal.{Refusal}
use Rattle.us_judge.specs.declared.part.Verdict.{Verdict}
use Rattle.us_judge.specs.Causes.{by_rule}

-- a verdict after one rule more, which is broken at `place`, if at all
abbrev pub after : Verdict → ℕ → Option ℕ → Verdict
after v rule place = record { part = v.part; refusal = or_else v.refusal (by_rule rule v.part place) }

-- and after a list of rules
abbrev pub run : Verdict → List (ℕ × Option ℕ) → Verdict
run v [] = v
run v (r ∷ rs) = run (after v r.0 r.1) rs

or_else_none : (a : Option Refusal) → a ≡ or_else a None
or_else_none (Some r) = refl
or_else_none None = refl

pub or_else_assoc : (a b c : Option Refusal) → or_else (or_else a b) c ≡ or_else a (or_else b c)
or_else_assoc (Some r) b c = refl
or_else_assoc None b c = refl

-- the first rule of the list that is broken decides, unless one was before
pub run-is : (v : Verdict) (rs : List (ℕ × Option ℕ)) → (run v rs).refusal ≡ or_else v.refusal (first_of (λ r. by_rule r.0 v.part r.1) rs)
run-is v [] = or_else_none v.refusal
run-is v (r ∷ rs) = run-is (after v r.0 r.1) rs ∙ or_else_assoc v.refusal (by_rule r.0 v.part r.1) (first_of (λ s. by_rule s.0 v.part s.1) rs)

pub next : (v u w : Verdict) (rule : ℕ) (p q : Option ℕ) → v ≡ u → p ≡ q → w ≡ after v rule p → w ≡ after u rule q
next v u w rule p q e f g = g ∙ ap (λ x. after x rule p) e ∙ ap (λ x. after u rule x) f
