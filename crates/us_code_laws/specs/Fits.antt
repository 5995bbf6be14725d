-- States that fit a context: what is visible has its kind.
use Rattle.std.specs.Prelude.{◌≡◌, ℕ, ◌+◌, ◌*◌, ◌<◌, true, List, length, ℤ, pos, Option, Some, None, slice_index_or}
use Rattle.us_code.specs.declared.program.CellKind.{CellKind}
use Rattle.us_code.specs.declared.program.CellKind.TheVariants as kind
use Rattle.us_code.specs.Run.{Env, State, size_of}
use Rattle.us_code.specs.Typing.{Form, Of, Product, Successor, RegKind, BufKind, Context}

-- a value of a kind
abbrev pub InKind : Env → CellKind → ℤ → Type 0
InKind env kind.Word v = Unit {0}
InKind env (kind.Below d) v = (k : ℕ) × (v ≡ pos k) × (k < size_of env d)

-- a register that may change holds words
abbrev pub RegOk : Env → Option RegKind → ℤ → Type 0
RegOk env None v = Unit {0}
RegOk env (Some k) v = (k.is_var ≡ true → k.kind ≡ kind.Word) × InKind env k.kind v

abbrev pub BufOk : Env → Option BufKind → List ℤ → Type 0
BufOk env None xs = Unit {0}
BufOk env (Some k) xs = (length xs ≡ size_of env k.len) × ((x : ℕ) → x < length xs → InKind env k.cell (slice_index_or xs x (pos 0)))

abbrev pub FormOk : Env → Option Form → ℕ → Type 0
FormOk env None d = Unit {0}
FormOk env (Some Of) d = Unit {0}
FormOk env (Some (Product e f)) d = (env.dims d ≡ size_of env e * size_of env f) × (env.factors d ≡ size_of env f)
FormOk env (Some (Successor e)) d = env.dims d ≡ size_of env e + 1

pub record Fits (g : Context) (env : Env) (s : State) : Type 0 where
  pub regs : (r : ℕ) → RegOk env (g.regs r) (s.regs r)
  pub bufs : (b : ℕ) → BufOk env (g.bufs b) (s.bufs b)
  pub dims : (d : ℕ) → FormOk env (g.dims d) d

-- what a run that isn't stuck keeps
pub record Sound (g : Context) (env : Env) (s s' : State) : Type 0 where
  pub stuck : s'.stuck ≡ s.stuck
  pub fits : Fits g env s'
