-- Contexts in which more is visible.
use Rattle.std.specs.Prelude.{◌≡◌, ℕ, Bool, true, false, ◌||◌, nat_lt, nat_eq, Some, None}
use Rattle.us_code.specs.Plain.{Code, End, Let, Load, Var, Put, Set, For, Span, If, When, Order}
use Rattle.us_code.specs.Typing.{Form, RegKind, BufKind, Context}

-- whether a block introduces the register x
abbrev pub introduces : ℕ → Code → Bool
introduces x End = false
introduces x (Let r e rest) = nat_eq r x || introduces x rest
introduces x (Load r b at rest) = nat_eq r x || introduces x rest
introduces x (Var r e rest) = nat_eq r x || introduces x rest
introduces x (Put r e rest) = introduces x rest
introduces x (Set b at e rest) = introduces x rest
introduces x (For r d body rest) = nat_eq r x || (introduces x body || introduces x rest)
introduces x (Span r a b d body rest) = nat_eq r x || (introduces x body || introduces x rest)
introduces x (If l eq r body given other rest) = introduces x body || (introduces x other || introduces x rest)
introduces x (When e d r body given other rest) = nat_eq r x || (introduces x body || (introduces x other || introduces x rest))
introduces x (Order b keys rest) = introduces x rest

-- what is visible in g is visible in h, with the same kind
pub record Wider (g h : Context) : Type 0 where
  pub sources : (k : ℕ) → nat_lt k g.sources ≡ true → nat_lt k h.sources ≡ true
  pub regs : (r : ℕ) (k : RegKind) → g.regs r ≡ Some k → h.regs r ≡ Some k
  pub bufs : (b : ℕ) (k : BufKind) → g.bufs b ≡ Some k → h.bufs b ≡ Some k
  pub dims : (d : ℕ) (f : Form) → g.dims d ≡ Some f → h.dims d ≡ Some f

-- each register that the block introduces, and that isn't visible in g, isn't visible in h
abbrev pub Spares : Context → Context → Code → Type 0
Spares g h c = (x : ℕ) → introduces x c ≡ true → g.regs x ≡ None → h.regs x ≡ None
