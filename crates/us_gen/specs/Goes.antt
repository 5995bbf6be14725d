-- Runs of phases that come to their end: what they cost, and what they leave as it was.
use Rattle.std.specs.Prelude.{◌≡◌, ℕ, ◌+◌, ◌*◌, ◌<◌, ◌≤◌, false, List, [], ◌∷◌, ◌++◌, replicate, ℤ, pos}
use Rattle.us_code.specs.declared.program.Dim.{Dim}
use Rattle.us_code.specs.declared.program.Make.{Make}
use Rattle.us_code.specs.Plain.{LineTree, PhaseTree, TermTree}
use Rattle.us_code.specs.Plain as plain
use Rattle.us_code.specs.Run.{State, put, exec, size_of, value}
use Rattle.us_code.specs.Runs.{World, Ran, Went, with_dim, make_all, line_all, begin, phases}

-- the sources, and the dims and buffers numbered below low, are the same
pub record Keeps (low : ℕ) (w u : World) : Type 0 where
  pub sources : u.env.sources ≡ w.env.sources
  pub dims : (d : ℕ) → d < low → u.env.dims d ≡ w.env.dims d
  pub factors : (d : ℕ) → d < low → u.env.factors d ≡ w.env.factors d
  pub bufs : (b : ℕ) → b < low → u.bufs b ≡ w.bufs b

-- a run from w comes to its end there, at no more than the cost, and keeps what has a number below low
pub record Arrives (low cost : ℕ) (w : World) (run : Ran) (end : World) : Type 0 where
  pub is : run ≡ Went end
  pub steps : end.steps ≤ w.steps + cost
  pub keeps : Keeps low w end

-- a run that arrives somewhere with Q
pub record Leads (low cost : ℕ) (w : World) (run : Ran) (Q : World → Type 0) : Type 0 where
  pub end : World
  pub arrives : Arrives low cost w run end
  pub post : Q end

-- phases, `new` lines and dim lines that arrive
abbrev pub Goes : ℕ → ℕ → List PhaseTree → World → World → Type 0
Goes low cost ps w end = Arrives low cost w (phases ps w) end

abbrev pub Makes : ℕ → ℕ → List Make → World → World → Type 0
Makes low cost ms w end = Arrives low cost w (make_all ms w) end

abbrev pub Lines : ℕ → ℕ → (ℕ → ℤ) → List LineTree → World → World → Type 0
Lines low cost regs ls w end = Arrives low cost w (line_all regs ls w) end

-- the world at the end of a phase's block
abbrev pub after : World → State → World
after w s = record { env = w.env; bufs = s.bufs; steps = s.steps }

-- a block that isn't stuck, at no more than the cost, and that keeps the buffers below low
pub record Blocks (low cost : ℕ) (w : World) (s : State) : Type 0 where
  pub stuck : s.stuck ≡ false
  pub steps : s.steps ≤ w.steps + cost
  pub bufs : (b : ℕ) → b < low → s.bufs b ≡ w.bufs b

pub record PhasesCompose : Type 0 where
  pub none : (low : ℕ) (w : World) → Goes low 0 [] w w
  pub looser : (low lower m n : ℕ) (ps : List PhaseTree) (w u : World) → lower ≤ low → m ≤ n → Goes low m ps w u → Goes lower n ps w u
  pub in_sequence : (low high m n : ℕ) (a b : List PhaseTree) (w u v : World) → low ≤ high → Goes low m a w u → Goes high n b u v → Goes low (m + n) (a ++ b) w v
  pub one :
      (low m n k : ℕ) (p : PhaseTree) (w u v : World) → Makes low m p.makes w u → Blocks low n u (exec u.env p.body (begin u))
      → Lines low k (exec u.env p.body (begin u)).regs p.lines (after u (exec u.env p.body (begin u))) v → Goes low (m + n + k) (p ∷ []) w v

-- the world behind a `new` line, and behind a dim line that gives a dim its value and its right factor
abbrev pub made : Make → World → World
made m w = record { env = w.env; bufs = put w.bufs m.buf (replicate (size_of w.env m.len) (pos 0)); steps = w.steps + 1 }

abbrev pub lined : ℕ → ℕ → ℕ → World → World
lined d n factor w = record { env = (with_dim d n factor w).env; bufs = w.bufs; steps = w.steps + 1 }

pub record NewLines : Type 0 where
  pub none : (low : ℕ) (w : World) → Makes low 0 [] w w
  pub more : (low cost : ℕ) (m : Make) (ms : List Make) (w u : World) → low ≤ m.buf → size_of w.env m.len ≤ 67108865 → Makes low cost ms (made m w) u → Makes low (cost + 1) (m ∷ ms) w u

pub record DimLines : Type 0 where
  pub none : (low : ℕ) (regs : ℕ → ℤ) (w : World) → Lines low 0 regs [] w w
  pub of :
      (low cost : ℕ) (regs : ℕ → ℤ) (d n : ℕ) (e : TermTree) (ls : List LineTree) (w u : World) → low ≤ d → value w.env regs e ≡ pos n → n ≤ 67108865
      → Lines low cost regs ls (lined d n 0 w) u → Lines low (cost + 1) regs (plain.Of d e ∷ ls) w u
  pub product :
      (low cost : ℕ) (regs : ℕ → ℤ) (d : ℕ) (left right : Dim) (ls : List LineTree) (w u : World) → low ≤ d → size_of w.env left * size_of w.env right ≤ 67108865
      → Lines low cost regs ls (lined d (size_of w.env left * size_of w.env right) (size_of w.env right) w) u → Lines low (cost + 1) regs (plain.Product d left right ∷ ls) w u
  pub successor :
      (low cost : ℕ) (regs : ℕ → ℤ) (d : ℕ) (before : Dim) (ls : List LineTree) (w u : World) → low ≤ d → size_of w.env before + 1 ≤ 67108865
      → Lines low cost regs ls (lined d (size_of w.env before + 1) 0 w) u → Lines low (cost + 1) regs (plain.Successor d before ∷ ls) w u
