-- What the code of a plan's steps does.
use Rattle.std.specs.Prelude.{◌≡◌, ℕ, ◌+◌, ◌*◌, ◌^◌, ◌<◌, List, [], length, slice_index_or, ℤ, pos, Some, FitsSigned}
use Rattle.std.proofs.Common.{w64}
use Rattle.us_code.specs.Plain.{Code}
use Rattle.us_code.specs.Run.{Env, State, exec, size_of, value}
use Rattle.us_expr.specs.Tree.{Tree}
use Rattle.us_format.specs.Lists.{nth, cell}
use Rattle.us_format.specs.Matrix.{Shape}
use Rattle.us_format.specs.Declaration.{Part}
use Rattle.us_format.specs.Coordinates.{level_range}
use Rattle.us_format.specs.Recover.{Found}
use Rattle.us_known.specs.Table.{tree_at}
use Rattle.us_invert.specs.declared.steps.PlanStep.{PlanStep}
use Rattle.us_invert.specs.declared.steps.PlanStep.TheVariants as plan
use Rattle.us_invert.specs.Plan.{step_at, IsEarlier}
use Rattle.us_invert.specs.Recovery.{walked}
use Rattle.us_gen_recover.specs.declared.places.Coordinate.{Coordinate}
use Rattle.us_gen_recover.specs.declared.places.Table.{Table}
use Rattle.us_gen_recover.specs.Recovery.{coordinate, table, names_in, term_at, recovery}
use Rattle.us_gen_recover.specs.Rooms.{NamesWithin}

-- registers below n hold the coordinates
abbrev pub CoordinatesAre : List Coordinate → Found → ℕ → (ℕ → ℤ) → Type 0
CoordinatesAre levels f n regs = (k : ℕ) → k < length levels → ((coordinate levels k).reg < n) × (regs (coordinate levels k).reg ≡ pos (slice_index_or f.coords k 0))

-- the sources hold the tables, and the dims are the extents
abbrev pub TablesAre : Env → List Table → Found → Type 0
TablesAre env tables f = (q : ℕ) → q < length tables → (env.sources (table tables q).source ≡ nth f.tables q) × (size_of env (table tables q).extent ≡ slice_index_or f.extents q 0)

-- the low end of a level is that of the range of the step's expression
abbrev pub HasLow : List Coordinate → ℤ → PlanStep → Type 0
HasLow levels lo (plan.Const c) = Unit {0}
HasLow levels lo (plan.Level k) = (coordinate levels k).low ≡ lo
HasLow levels lo (plan.Add a b) = Unit {0}
HasLow levels lo (plan.Sub a b) = Unit {0}
HasLow levels lo (plan.Join q r k) = Unit {0}
HasLow levels lo (plan.Div a k) = Unit {0}
HasLow levels lo (plan.Rem a k) = Unit {0}
HasLow levels lo (plan.Order q v) = Unit {0}
HasLow levels lo (plan.Rows q l t) = Unit {0}

-- a number that is a place of a table
abbrev pub IsPlaceOf : List ℤ → ℤ → Type 0
IsPlaceOf xs z = (x : ℕ) × (z ≡ pos x) × (x < length xs)

-- a lane and a slot whose place is one of a table of lanes of this many slots, which isn't too long
abbrev pub AreLaneAndSlot : List ℤ → ℕ → ℤ → ℤ → Type 0
AreLaneAndSlot xs extent l t = (x : ℕ) × (y : ℕ) × (l ≡ pos x) × (t ≡ pos y) × (x * extent + y < length xs) × (length xs < 2 ^ 63)

-- a step that reads a table reads one of its cells, where the steps have the values zs
abbrev pub ReadsACell : Found → List ℤ → PlanStep → Type 0
ReadsACell f zs (plan.Const c) = Unit {0}
ReadsACell f zs (plan.Level k) = Unit {0}
ReadsACell f zs (plan.Add a b) = Unit {0}
ReadsACell f zs (plan.Sub a b) = Unit {0}
ReadsACell f zs (plan.Join q r k) = Unit {0}
ReadsACell f zs (plan.Div a k) = Unit {0}
ReadsACell f zs (plan.Rem a k) = Unit {0}
ReadsACell f zs (plan.Order q v) = IsPlaceOf (nth f.tables q) (cell zs v)
ReadsACell f zs (plan.Rows q l t) = AreLaneAndSlot (nth f.tables q) (slice_index_or f.extents q 0) (cell zs l) (cell zs t)

-- step k, whose expression's range has the low end lo: its operands come first, its value fits 64 bits, and it reads a table in its bounds
pub record IsReady (levels : List Coordinate) (tables : List Table) (f : Found) (zs : List ℤ) (k : ℕ) (lo : ℤ) (x : PlanStep) : Type 0 where
  pub earlier : IsEarlier k x
  pub fits : FitsSigned w64 (cell zs k)
  pub within : NamesWithin (length levels) (length tables) x
  pub low : HasLow levels lo x
  pub reads : ReadsACell f zs x

-- from s to u each step of steps got its value, in registers from n on, in one step a register
pub record Recovered (env : Env) (levels : List Coordinate) (steps : List PlanStep) (n : ℕ) (zs : List ℤ) (s u : State) : Type 0 where
  pub regs : (r : ℕ) → r < n → u.regs r ≡ s.regs r
  pub bufs : u.bufs ≡ s.bufs
  pub steps_are : u.steps ≡ s.steps + names_in steps
  pub stuck : u.stuck ≡ s.stuck
  pub values : (k : ℕ) → k < length steps → (g : ℕ → ℤ) → ((r : ℕ) → r < n + names_in steps → g r ≡ u.regs r) → value env g (term_at levels steps n k) ≡ cell zs k

-- where walking the steps gives the values zs, the code does its inner block in a state in which each term has the value of its step
abbrev pub RecoveryGives : Type 0
RecoveryGives =
    (env : Env) (levels : List Coordinate) (tables : List Table) (sh : Shape) (p : Part) (f : Found) (ts : List Tree) (steps : List PlanStep) (zs : List ℤ) (n : ℕ) (inner : Code) (s : State)
    → walked sh p f ts steps [] ≡ Some zs → length steps ≡ length ts → CoordinatesAre levels f n s.regs → TablesAre env tables f
    → ((k : ℕ) → k < length steps → IsReady levels tables f zs k (level_range sh f.extents p (tree_at ts k)).lo (step_at steps k))
    → (u : State) × (exec env (recovery levels tables steps [] n inner) s ≡ exec env inner u) × Recovered env levels steps n zs s u
