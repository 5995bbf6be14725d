-- Terms of few nodes keep the limits.
use Rattle.std.proofs.Common.{ℕ, ◌+◌, ◌^◌, ◌<◌, ◌≤◌, Bool, true, false, cond, nat_lt, arith}
use Rattle.us_code.specs.declared.program.Dim.{Dim}
use Rattle.us_code.specs.declared.program.Dim.TheVariants as dim
use Rattle.us_code.specs.Plain.{TermTree, Number, Reg, Size, Flat, Next, Up, Add, Sub, Mul, Div, Rem}
use Rattle.us_code.specs.Limits.{nodes, wrapped, parens, FitsDim, FitsTerm}
use Rattle.us_gen.specs.Levels.{size_term, in_pack}
use Rattle.us_gen.specs.Nest.{is_origin, under}
use Rattle.us_limits.specs.Small.{SmallTerm}
use Rattle.us_limits.specs.Laws.{TermsKeepLimits}

wrapped-few : (needed : Bool) (m n : ℕ) → m + 1 ≤ n → wrapped needed m ≤ n
wrapped-few true m n h = omega arith
wrapped-few false m n h = omega arith

pub parens-few : (place : ℕ) (e : TermTree) → parens place e ≤ nodes e
parens-few place (Number n) = omega arith
parens-few place (Reg r) = omega arith
parens-few place (Size d) = omega arith
parens-few place (Flat d p c) = omega (arith, parens-few 0 p, parens-few 0 c)
parens-few place (Next d x) = omega (arith, parens-few 0 x)
parens-few place (Up d x) = omega (arith, parens-few 0 x)
parens-few place (Add a b) = wrapped-few (nat_lt 0 place) _ _ (omega (arith, parens-few 0 a, parens-few 1 b))
parens-few place (Sub a b) = wrapped-few (nat_lt 0 place) _ _ (omega (arith, parens-few 0 a, parens-few 1 b))
parens-few place (Mul a b) = wrapped-few (nat_lt 1 place) _ _ (omega (arith, parens-few 1 a, parens-few 2 b))
parens-few place (Div a k) = wrapped-few (nat_lt 1 place) _ _ (omega (arith, parens-few 1 a))
parens-few place (Rem a k) = wrapped-few (nat_lt 1 place) _ _ (omega (arith, parens-few 1 a))

-- a small term fits
pub term-fits : {n : ℕ} {e : TermTree} → n ≤ 64 → SmallTerm n e → FitsTerm e
term-fits {n} {e} le s = (s.numbers, omega (arith, s.long), omega (arith, s.long, parens-few 0 e))

pub term-looser : {m n : ℕ} {e : TermTree} → m ≤ n → SmallTerm m e → SmallTerm n e
term-looser le s = record { numbers = s.numbers; long = omega (arith, le, s.long) }

pub terms-keep-limits : TermsKeepLimits
terms-keep-limits = record { parens_are = parens-few; few = λ n e le s. term-fits le s }

-- ---- one lemma for each form

pub number-small : {k : ℕ} → k < 2 ^ 63 → SmallTerm 1 (Number k)
number-small h = record { numbers = h; long = omega arith }

pub register-small : {r : ℕ} → SmallTerm 1 (Reg r)
register-small = record { numbers = tt; long = omega arith }

pub dim-small : {d : Dim} → FitsDim d → SmallTerm 1 (Size d)
dim-small h = record { numbers = h; long = omega arith }

pub flat-small : {m n d : ℕ} {p c : TermTree} → SmallTerm m p → SmallTerm n c → SmallTerm (1 + m + n) (Flat d p c)
flat-small s t = record { numbers = (s.numbers, t.numbers); long = omega (arith, s.long, t.long) }

pub next-small : {m d : ℕ} {x : TermTree} → SmallTerm m x → SmallTerm (1 + m) (Next d x)
next-small s = record { numbers = s.numbers; long = omega (arith, s.long) }

pub up-small : {m d : ℕ} {x : TermTree} → SmallTerm m x → SmallTerm (1 + m) (Up d x)
up-small s = record { numbers = s.numbers; long = omega (arith, s.long) }

pub sum-small : {m n : ℕ} {a b : TermTree} → SmallTerm m a → SmallTerm n b → SmallTerm (1 + m + n) (Add a b)
sum-small s t = record { numbers = (s.numbers, t.numbers); long = omega (arith, s.long, t.long) }

pub difference-small : {m n : ℕ} {a b : TermTree} → SmallTerm m a → SmallTerm n b → SmallTerm (1 + m + n) (Sub a b)
difference-small s t = record { numbers = (s.numbers, t.numbers); long = omega (arith, s.long, t.long) }

pub product-small : {m n : ℕ} {a b : TermTree} → SmallTerm m a → SmallTerm n b → SmallTerm (1 + m + n) (Mul a b)
product-small s t = record { numbers = (s.numbers, t.numbers); long = omega (arith, s.long, t.long) }

pub quotient-small : {m k : ℕ} {a : TermTree} → 0 < k → k < 2 ^ 63 → SmallTerm m a → SmallTerm (1 + m) (Div a k)
quotient-small p h s = record { numbers = (s.numbers, p, h); long = omega (arith, s.long) }

pub remainder-small : {m k : ℕ} {a : TermTree} → 0 < k → k < 2 ^ 63 → SmallTerm m a → SmallTerm (1 + m) (Rem a k)
remainder-small p h s = record { numbers = (s.numbers, p, h); long = omega (arith, s.long) }

-- ---- positions

pub size-small : (d : Dim) → FitsDim d → SmallTerm 1 (size_term d)
size-small (dim.Number n) h = number-small h
size-small (dim.Name d) h = dim-small h
size-small (dim.Len k) h = dim-small h

pub under-small : {n : ℕ} (q size : TermTree) (c : ℕ) → SmallTerm n q → SmallTerm 1 size → SmallTerm (n + 4) (under q size c)
under-small {n} q size c s t = either (is_origin q)
  where
    either : (origin : Bool) → SmallTerm (n + 4) (cond origin (Reg c) (Add (Mul q size) (Reg c)))
    either true = term-looser (omega arith) register-small
    either false = term-looser (omega arith) (sum-small (product-small s t) register-small)

pub pack-small : {n w digit : ℕ} {q : TermTree} → w < 2 ^ 63 → digit < 2 ^ 63 → SmallTerm n q → SmallTerm (n + 4) (in_pack q w digit)
pack-small wide low s = term-looser (omega arith) (sum-small (product-small s (number-small wide)) (number-small low))
