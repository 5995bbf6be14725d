-- Programs that are typed, on sources of the stated number.
use Rattle.std.specs.Prelude.{◌≡◌, ◌≢◌, ℕ, true, List, ℤ, Option, Some, None}
use Rattle.us_code.specs.Plain.{ProgramTree}
use Rattle.us_code.specs.Runs.{GotStuck, run}
use Rattle.us_code.specs.Typing.{Form, Of, Product, Successor, RegKind, BufKind, Context, sees_dim, sees_cell, TypedProgram}

-- the kinds of what is visible name visible dims alone
abbrev pub RegCloses : Context → Option RegKind → Type 0
RegCloses g None = Unit {0}
RegCloses g (Some k) = sees_cell g k.kind ≡ true

abbrev pub BufCloses : Context → Option BufKind → Type 0
BufCloses g None = Unit {0}
BufCloses g (Some k) = (sees_dim g k.len ≡ true) × (sees_cell g k.cell ≡ true)

abbrev pub FormCloses : Context → Option Form → Type 0
FormCloses g None = Unit {0}
FormCloses g (Some Of) = Unit {0}
FormCloses g (Some (Product a b)) = (sees_dim g a ≡ true) × (sees_dim g b ≡ true)
FormCloses g (Some (Successor a)) = sees_dim g a ≡ true

pub record Closed (g : Context) : Type 0 where
  pub regs : (r : ℕ) → RegCloses g (g.regs r)
  pub bufs : (b : ℕ) → BufCloses g (g.bufs b)
  pub dims : (d : ℕ) → FormCloses g (g.dims d)

-- a typed program is never stuck on any sources
abbrev pub TypedProgramsRun : Type 0
TypedProgramsRun = (p : ProgramTree) (sources : List (List ℤ)) → TypedProgram p → run p sources ≢ GotStuck
