-- Runs that agree on some names.
use Rattle.std.specs.Prelude.{◌≡◌, ℕ, ◌+◌}
use Rattle.us_code.specs.Run.{Env, State}

pub record AlikeOn (D : ℕ → Type 0) (env env' : Env) : Type 0 where
  pub sources : env'.sources ≡ env.sources
  pub dims : (d : ℕ) → D d → env'.dims d ≡ env.dims d
  pub factors : (d : ℕ) → D d → env'.factors d ≡ env.factors d

-- the second state has the named registers and buffers of the first, and k more steps
pub record AgreeOn (R B : ℕ → Type 0) (k : ℕ) (s u : State) : Type 0 where
  pub regs : (r : ℕ) → R r → u.regs r ≡ s.regs r
  pub bufs : (b : ℕ) → B b → u.bufs b ≡ s.bufs b
  pub steps : u.steps ≡ s.steps + k
  pub stuck : u.stuck ≡ s.stuck
