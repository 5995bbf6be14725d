-- What a walk over a block starts from, and what it leaves.
use Rattle.std.specs.Prelude.{◌≡◌, ℕ, ◌+◌, ◌<◌, ◌≤◌, ◌^◌, true, false, List, [], length, get_or, ℤ, pos, Result, Ok, Err, None}
use Rattle.us_raw.specs.declared.width.Width.TheVariants.{W8}
use Rattle.us_raw.specs.Plan.{IsPlan, widths_of, no_segment}
use Rattle.us_raw.specs.Region.{Lists}
use Rattle.us_raw.specs.Widths.{Holds, HoldsAll}
use Rattle.us_code.specs.declared.program.Dim.{Dim}
use Rattle.us_code.specs.declared.program.CellKind.TheVariants as kind
use Rattle.us_code.specs.Plain.{Code}
use Rattle.us_code.specs.Limits.{FitsTerms}
use Rattle.us_code.specs.Run.{Env, State, exec, set_reg, size_of, tick}
use Rattle.us_code.specs.Runs.{at_source}
use Rattle.us_code.specs.Typing.{Context, Typed, buf_cell, is_some, with_reg}
use Rattle.us_code_laws.specs.Fits.{InKind, Fits}
use Rattle.us_machine.specs.declared.stop.RunStop.{RunStop}
use Rattle.us_machine.specs.declared.stop.RunStop.TheVariants.{TooLarge, OutOfSteps, Memory}
use Rattle.us_machine.specs.declared.tables.Tables.{Tables}
use Rattle.us_machine.specs.Steps.{Shows, IsOver}
use Rattle.us_machine.specs.Tables.{held, env_of}

-- the new buffers, by name
abbrev pub bufs_of : Tables → Lists → ℕ → List ℤ
bufs_of t r b = get_or r.lists (held t.segs b) []

-- the state of a run whose registers, region and steps are these
abbrev pub state_of : Tables → Lists → (ℕ → ℤ) → ℕ → State
state_of t r regs n = record { regs = regs; bufs = bufs_of t r; steps = n; stuck = false }

-- how the lists stand in the region: first one without cells, then the sources, then the new buffers, each once
pub record Stands (t : Tables) (sources : List (List ℤ)) (r : Lists) : Type 0 where
  pub none : get_or r.lists 0 [] ≡ []
  pub given : (k : ℕ) → k < length sources → get_or r.lists (k + 1) [] ≡ at_source sources k
  pub apart : (a b : ℕ) → 0 < held t.segs a → held t.segs a ≡ held t.segs b → a ≡ b
  pub behind : (b : ℕ) → 0 < held t.segs b → length sources < held t.segs b
  pub planned : (i : ℕ) → length (get_or r.lists i []) ≡ (get_or t.plan.items i no_segment).len
  pub widths : r.widths ≡ widths_of t.plan.items
  pub few : IsPlan t.plan.items
  pub long : length r.lists ≡ length t.plan.items
  pub after : length sources < length t.plan.items
  pub listed : (b : ℕ) → held t.segs b < length t.plan.items
  pub fit : (i : ℕ) → HoldsAll (get_or r.widths i W8) (get_or r.lists i [])

-- what stays through a block: dims and lengths are small, and each new buffer's cells hold its kind
pub record Sized (t : Tables) (sources : List (List ℤ)) (g : Context) : Type 0 where
  pub count : g.sources ≡ length sources
  pub dims : (d : ℕ) → held t.dims d ≤ 67108865
  pub factors : (d : ℕ) → held t.factors d < 2 ^ 63
  pub short : (k : ℕ) → length (at_source sources k) ≤ 67108865
  pub wide : (b : ℕ) (v : ℤ) → is_some (g.bufs b) ≡ true → InKind (env_of t sources) (buf_cell (g.bufs b)) v
      → Holds (get_or (widths_of t.plan.items) (held t.segs b) W8) v

-- a block that keeps the rules in a context that the state fits
pub record Ready (t : Tables) (sources : List (List ℤ)) (r : Lists) (regs : ℕ → ℤ) (g : Context) (c : Code) : Type 0 where
  pub typed : Typed g c
  pub terms : FitsTerms c
  pub fits : Fits g (env_of t sources) (state_of t r regs 0)
  pub stands : Stands t sources r
  pub sized : Sized t sources g

-- the same of the body of a loop, whose register stays below a dim
pub record Turning (t : Tables) (sources : List (List ℤ)) (r : Lists) (regs : ℕ → ℤ) (g : Context) (reg end : ℕ) (c : Code) : Type 0 where
  pub below : Dim
  pub within : end ≤ size_of (env_of t sources) below
  pub small : end < 2 ^ 63
  pub fresh : g.regs reg ≡ None
  pub typed : Typed (with_reg g reg false (kind.Below below)) c
  pub terms : FitsTerms c
  pub fits : Fits g (env_of t sources) (state_of t r regs 0)
  pub stands : Stands t sources r
  pub sized : Sized t sources g

-- a turn of a loop whose register starts at x
abbrev pub turn_from : Env → ℕ → ℕ → Code → ℕ → State → State
turn_from env reg x c t u = exec env c (set_reg reg (pos (x + t)) (tick 1 u))

-- the machine stands in the state
pub record Reaches (t : Tables) (sources : List (List ℤ)) (s : State) (r : Lists) (regs : ℕ → ℤ) (steps : ℕ) : Type 0 where
  pub count : ℕ
  pub is : s ≡ state_of t r regs count
  pub shows : Shows t.budget steps count
  pub stands : Stands t sources r

-- what a walk answers that is to reach the state
abbrev pub Leads : Tables → List (List ℤ) → Result (Unit {0}) RunStop → State → Lists → (ℕ → ℤ) → ℕ → Type 0
Leads t sources (Ok x) s r regs steps = Reaches t sources s r regs steps
Leads t sources (Err OutOfSteps) s r regs steps = IsOver t.budget s.steps
Leads t sources (Err Memory) s r regs steps = Unit {0}
Leads t sources (Err TooLarge) s r regs steps = ⊥
