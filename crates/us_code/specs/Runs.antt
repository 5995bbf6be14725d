-- What a program does, and how many steps it takes.
use Rattle.std.specs.Prelude.{ℕ, zero, suc, ◌+◌, ◌*◌, false, cond, nat_lt, nat_le, List, [], ◌∷◌, replicate, map, ℤ, pos, negsuc}
use Rattle.us_code.specs.declared.program.Make.{Make}
use Rattle.us_code.specs.Plain.{LineTree, Of, Product, Successor, PhaseTree, ProgramTree}
use Rattle.us_code.specs.Run.{Env, State, put, size_of, value, exec}

-- what lasts from phase to phase
pub record World : Type 0 where
  pub env : Env
  pub bufs : ℕ → List ℤ
  pub steps : ℕ

pub data Ran : Type 0 where
  Went : (w : World) → Ran
  TooLarge : (steps : ℕ) → Ran
  Stuck : Ran

infixl 10 ◌>>=◌
abbrev pub ◌>>=◌ : Ran → (World → Ran) → Ran
(Went w) >>= f = f w
(TooLarge n) >>= f = TooLarge n
Stuck >>= f = Stuck

-- a length or dim above the limit stops the run; the step is counted before
abbrev pub within : ℕ → World → World → Ran
within n old new = cond (nat_lt 67108865 n) (TooLarge (old.steps + 1)) (Went record { env = new.env; bufs = new.bufs; steps = old.steps + 1 })

-- a `new` line
abbrev pub make : Make → World → Ran
make m w = within (size_of w.env m.len) w record { env = w.env; bufs = put w.bufs m.buf (replicate (size_of w.env m.len) (pos 0)); steps = w.steps }

abbrev pub with_dim : ℕ → ℕ → ℕ → World → World
with_dim d n f w = record { env = record { dims = put w.env.dims d n; factors = put w.env.factors d f; sources = w.env.sources }; bufs = w.bufs; steps = w.steps }

-- a number, or 0 where it is negative
abbrev pub whole : ℤ → ℕ
whole (pos n) = n
whole (negsuc n) = 0

-- a dim line
abbrev pub line : (ℕ → ℤ) → LineTree → World → Ran
line regs (Of d e) w = let n = whole (value w.env regs e) in within n w (with_dim d n 0 w)
line regs (Product d l r) w = let n = size_of w.env l * size_of w.env r in within n w (with_dim d n (size_of w.env r) w)
line regs (Successor d of) w = let n = size_of w.env of + 1 in within n w (with_dim d n 0 w)

abbrev pub make_all : List Make → World → Ran
make_all [] w = Went w
make_all (m ∷ ms) w = make m w >>= make_all ms

abbrev pub line_all : (ℕ → ℤ) → List LineTree → World → Ran
line_all regs [] w = Went w
line_all regs (l ∷ ls) w = line regs l w >>= line_all regs ls

abbrev pub after_body : State → List LineTree → World → Ran
after_body s lines w = cond s.stuck Stuck (line_all s.regs lines record { env = w.env; bufs = s.bufs; steps = s.steps })

abbrev pub begin : World → State
begin w = record { regs = λ _. pos 0; bufs = w.bufs; steps = w.steps; stuck = false }

-- a phase: its buffers, its block, its dims
abbrev pub phase : PhaseTree → World → Ran
phase p w = make_all p.makes w >>= λ u. after_body (exec u.env p.body (begin u)) p.lines u

abbrev pub phases : List PhaseTree → World → Ran
phases [] w = Went w
phases (p ∷ ps) w = phase p w >>= phases ps

abbrev pub at_source : List (List ℤ) → ℕ → List ℤ
at_source [] k = []
at_source (x ∷ xs) zero = x
at_source (x ∷ xs) (suc k) = at_source xs k

abbrev pub start : List (List ℤ) → World
start sources = record { env = record { dims = λ _. 0; factors = λ _. 0; sources = at_source sources }; bufs = λ _. []; steps = 0 }

-- what a run gives
pub data Outcome : Type 0 where
  Gave : (lists : List (List ℤ)) → (steps : ℕ) → Outcome
  TooBig : (steps : ℕ) → Outcome
  OutOfSteps : Outcome
  GotStuck : Outcome

abbrev pub outcome : List ℕ → Ran → Outcome
outcome give (Went w) = Gave (map w.bufs give) w.steps
outcome give (TooLarge n) = TooBig n
outcome give Stuck = GotStuck

-- the run of a program on its sources
abbrev pub run : ProgramTree → List (List ℤ) → Outcome
run p sources = outcome p.give (phases p.phases (start sources))

-- an outcome whose steps are more than n didn't come to its end
abbrev pub by_budget : ℕ → Outcome → Outcome
by_budget n (Gave lists steps) = cond (nat_le steps n) (Gave lists steps) OutOfSteps
by_budget n (TooBig steps) = cond (nat_le steps n) (TooBig steps) OutOfSteps
by_budget n OutOfSteps = OutOfSteps
by_budget n GotStuck = GotStuck

-- the run with at most n steps
abbrev pub run_within : ProgramTree → List (List ℤ) → ℕ → Outcome
run_within p sources n = by_budget n (run p sources)
