-- Phases keep the limits, one after the other.
use Rattle.std.proofs.Common.{◌≡◌, ℕ, ◌+◌, ◌≤◌, List, [], ◌∷◌, ◌++◌, length, arith}
use Rattle.us_code.specs.Plain.{PhaseTree}
use Rattle.us_code.specs.Limits.{FitsMakes, FitsLines, FitsPhases, items}
use Rattle.us_limits.specs.Small.{Small, KeepText}
use Rattle.us_limits.specs.Laws.{PhasesKeepLimits}

pub none-keep : KeepText 0 []
none-keep = record { each = tt; long = omega arith }

pub text-looser : {m n : ℕ} {ps : List PhaseTree} → m ≤ n → KeepText m ps → KeepText n ps
text-looser le s = record { each = s.each; long = omega (arith, le, s.long) }

phases-append : (a b : List PhaseTree) → FitsPhases a → FitsPhases b → FitsPhases (a ++ b)
phases-append [] b f g = g
phases-append (p ∷ ps) b f g = (f.0, f.1, f.2, f.3, phases-append ps b f.4 g)

items-append : (a b : List PhaseTree) → items (a ++ b) ≡ items a + items b
items-append [] b = omega arith
items-append (p ∷ ps) b = omega (arith, items-append ps b)

pub append-keep : {m n : ℕ} {a b : List PhaseTree} → KeepText m a → KeepText n b → KeepText (m + n) (a ++ b)
append-keep {m} {n} {a} {b} s t = record { each = phases-append a b s.each t.each; long = omega (arith, s.long, t.long, items-append a b) }

pub phase-keep : {n : ℕ} {p : PhaseTree} → FitsMakes p.makes → Small n 64 p.body → FitsLines p.lines → KeepText (length p.makes + n + length p.lines) (p ∷ [])
phase-keep f s g = record { each = (f, s.terms, s.deep, g, tt); long = omega (arith, s.long) }

-- a phase in front of others
pub more-keep : {m n : ℕ} {p : PhaseTree} {ps : List PhaseTree} → FitsMakes p.makes → Small m 64 p.body → FitsLines p.lines → KeepText n ps → KeepText (length p.makes + m + length p.lines + n) (p ∷ ps)
more-keep f s g t = record { each = (f, s.terms, s.deep, g, t.each); long = omega (arith, s.long, t.long) }

pub phases-keep-limits : PhasesKeepLimits
phases-keep-limits = record {
  none = none-keep;
  looser = λ m n ps le s. text-looser le s;
  in_sequence = λ m n a b s t. append-keep s t;
  one = λ n p f s g. phase-keep f s g;
}
