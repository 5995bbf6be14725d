-- What the machine holds between the lines of a program.
use Rattle.std.specs.Prelude.{◌≡◌, ℕ, ◌+◌, ◌≤◌, true, List, [], ◌∷◌, length, ℤ, pos, Result, Ok, Err}
use Rattle.us_raw.specs.Plan.{widths_of}
use Rattle.us_raw.specs.Region.{Lists}
use Rattle.us_code.specs.declared.program.Make.{Make}
use Rattle.us_code.specs.Plain.{LineTree, PhaseTree}
use Rattle.us_code.specs.Limits.{FitsMakes, FitsLines, FitsPhases}
use Rattle.us_code.specs.Runs.{World, Ran, Went, Stuck, make_all, line_all, phases}
use Rattle.us_code.specs.Runs as runs
use Rattle.us_code.specs.Typing.{Context, TypedMakes, TypedLines, TypedPhases, with_bufs, with_lines, after_phases}
use Rattle.us_code_laws.specs.Fits.{Fits}
use Rattle.us_code_laws.specs.Programs.{Closed}
use Rattle.us_machine.specs.declared.budget.Budget.{Budget}
use Rattle.us_machine.specs.declared.stop.RunStop.{RunStop}
use Rattle.us_machine.specs.declared.stop.RunStop.TheVariants.{TooLarge, OutOfSteps, Memory}
use Rattle.us_machine.specs.declared.tables.Tables.{Tables}
use Rattle.us_machine.specs.Growing.{grown}
use Rattle.us_machine.specs.Steps.{Shows, IsOver}
use Rattle.us_machine.specs.Tables.{env_of}
use Rattle.us_machine.specs.Walks.{Stands, Sized, state_of, bufs_of}

-- the region with the lists that are planned, but not made yet
abbrev pub grown_in : Tables → Lists → Lists
grown_in t r = record { lists = grown t.plan.items r.lists; widths = widths_of t.plan.items }

abbrev pub world_of : Tables → List (List ℤ) → Lists → ℕ → World
world_of t sources r n = record { env = env_of t sources; bufs = bufs_of t r; steps = n }

-- a place of a run: the region, what is visible, what the registers hold, and the steps so far
pub record Point : Type 0 where
  pub region : Lists
  pub context : Context
  pub regs : ℕ → ℤ
  pub count : ℕ

abbrev pub world_at : Tables → List (List ℤ) → Point → World
world_at t sources p = world_of t sources (grown_in t p.region) p.count

-- the machine is there
pub record IsAt (t : Tables) (sources : List (List ℤ)) (steps : ℕ) (p : Point) : Type 0 where
  pub closed : Closed p.context
  pub fits : Fits p.context (env_of t sources) (state_of t (grown_in t p.region) p.regs 0)
  pub stands : Stands t sources (grown_in t p.region)
  pub sized : Sized t sources p.context
  pub shows : Shows t.budget steps p.count
  pub fewer : length p.region.lists ≤ length t.plan.items

-- the machine goes on from a place to the world w, where h is visible
pub record Next (t : Tables) (sources : List (List ℤ)) (steps : ℕ) (p : Point) (h : Context) (w : World) : Type 0 where
  pub point : Point
  pub region : point.region ≡ p.region
  pub regs : point.regs ≡ p.regs
  pub context : point.context ≡ h
  pub world : w ≡ world_at t sources point
  pub at : IsAt t sources steps point

-- what is answered by a part of a run that the definition runs so
abbrev pub Ends : Budget → Result (Unit {0}) RunStop → Ran → (World → Type 0) → Type 0
Ends b (Ok x) (Went w) P = P w
Ends b (Ok x) (runs.TooLarge n) P = ⊥
Ends b (Ok x) Stuck P = ⊥
Ends b (Err TooLarge) (Went w) P = ⊥
Ends b (Err TooLarge) (runs.TooLarge n) P = b.bounded ≡ true → n ≤ b.limit
Ends b (Err TooLarge) Stuck P = ⊥
Ends b (Err OutOfSteps) (Went w) P = IsOver b w.steps
Ends b (Err OutOfSteps) (runs.TooLarge n) P = IsOver b n
Ends b (Err OutOfSteps) Stuck P = Unit {0}
Ends b (Err Memory) (Went w) P = Unit {0}
Ends b (Err Memory) (runs.TooLarge n) P = Unit {0}
Ends b (Err Memory) Stuck P = Unit {0}

-- `new` lines that may run from here
pub record CanMake (t : Tables) (sources : List (List ℤ)) (steps : ℕ) (ms : List Make) : Type 0 where
  pub point : Point
  pub at : IsAt t sources steps point
  pub typed : TypedMakes point.context ms
  pub fits : FitsMakes ms
  pub room : length t.plan.items + length ms ≤ 131072

abbrev pub Makes : Tables → Tables → List (List ℤ) → Result (Unit {0}) RunStop → ℕ → ℕ → List Make → Type 0
Makes old new sources result steps steps' ms =
    (p : Point) → IsAt old sources steps p → TypedMakes p.context ms
    → Ends old.budget result (make_all ms (world_at old sources p)) (λ w. Next new sources steps' p (with_bufs p.context ms) w)

-- dim lines that may run from here
pub record CanName (t : Tables) (sources : List (List ℤ)) (steps : ℕ) (regs : ℕ → ℤ) (ls : List LineTree) : Type 0 where
  pub point : Point
  pub at : IsAt t sources steps point
  pub keeps : point.regs ≡ regs
  pub typed : TypedLines point.context ls
  pub fits : FitsLines ls

abbrev pub Names : Tables → Tables → List (List ℤ) → Result (Unit {0}) RunStop → ℕ → ℕ → (ℕ → ℤ) → List LineTree → Type 0
Names old new sources result steps steps' regs ls =
    (p : Point) → IsAt old sources steps p → p.regs ≡ regs → TypedLines p.context ls
    → Ends old.budget result (line_all regs ls (world_at old sources p)) (λ w. Next new sources steps' p (with_lines p.context ls) w)

-- the region has all lists of the plan
pub record IsWhole (t : Tables) (r : Lists) : Type 0 where
  pub long : length r.lists ≡ length t.plan.items
  pub widths : r.widths ≡ widths_of t.plan.items

-- `new` lines that may run on this region
pub record CanBegin (t : Tables) (sources : List (List ℤ)) (r : Lists) (steps : ℕ) (ms : List Make) : Type 0 where
  pub can : CanMake t sources steps ms
  pub here : can.point.region ≡ r
  pub whole : IsWhole t r

-- how many `new` lines there are
abbrev pub count_makes : List PhaseTree → ℕ
count_makes [] = 0
count_makes (p ∷ ps) = length p.makes + count_makes ps

-- phases that may run on this region
pub record CanRun (t : Tables) (sources : List (List ℤ)) (r : Lists) (steps : ℕ) (ps : List PhaseTree) : Type 0 where
  pub point : Point
  pub at : IsAt t sources steps point
  pub here : point.region ≡ r
  pub empty : point.regs ≡ (λ _. pos 0)
  pub whole : IsWhole t r
  pub typed : TypedPhases point.context ps
  pub fits : FitsPhases ps
  pub room : length t.plan.items + count_makes ps ≤ 131072

-- the machine goes on to the world w, behind whole phases
pub record After (t : Tables) (sources : List (List ℤ)) (r : Lists) (steps : ℕ) (h : Context) (w : World) : Type 0 where
  pub point : Point
  pub here : point.region ≡ r
  pub empty : point.regs ≡ (λ _. pos 0)
  pub context : point.context ≡ h
  pub world : w ≡ world_at t sources point
  pub at : IsAt t sources steps point
  pub whole : IsWhole t r

abbrev pub Runs : Tables → Tables → List (List ℤ) → Lists → Lists → Result (Unit {0}) RunStop → ℕ → ℕ → List PhaseTree → Type 0
Runs old new sources r r' result steps steps' ps =
    (p : Point) → IsAt old sources steps p → p.region ≡ r → p.regs ≡ (λ _. pos 0) → TypedPhases p.context ps
    → Ends old.budget result (phases ps (world_at old sources p)) (λ w. After new sources r' steps' (after_phases p.context ps) w)
