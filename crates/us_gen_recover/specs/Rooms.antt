-- The code of a plan's steps is typed in every context with room.
use Rattle.std.specs.Prelude.{◌≡◌, ℕ, ◌+◌, ◌<◌, true, false, nat_lt, List, [], ◌∷◌, length, All}
use Rattle.us_code.specs.declared.program.CellKind.TheVariants as kind
use Rattle.us_code.specs.Plain.{Code}
use Rattle.us_code.specs.Typing.{Context, is_some, with_reg, sees_dim, fine, Typed}
use Rattle.us_gen.specs.declared.nests.Level.TheVariants.{Cell}
use Rattle.us_gen.specs.Rooms.{FreshFrom, in_level}
use Rattle.us_invert.specs.declared.steps.PlanStep.{PlanStep}
use Rattle.us_invert.specs.declared.steps.PlanStep.TheVariants as plan
use Rattle.us_gen_recover.specs.declared.places.Coordinate.{Coordinate}
use Rattle.us_gen_recover.specs.declared.places.Table.{Table}
use Rattle.us_gen_recover.specs.Recovery.{coordinate, table, names, names_in, term_at, recovery}

-- a level below the number of levels, a query below the number of queries
abbrev pub NamesWithin : ℕ → ℕ → PlanStep → Type 0
NamesWithin levels queries (plan.Const c) = Unit {0}
NamesWithin levels queries (plan.Level k) = k < levels
NamesWithin levels queries (plan.Add a b) = Unit {0}
NamesWithin levels queries (plan.Sub a b) = Unit {0}
NamesWithin levels queries (plan.Join q r k) = Unit {0}
NamesWithin levels queries (plan.Div a k) = Unit {0}
NamesWithin levels queries (plan.Rem a k) = Unit {0}
NamesWithin levels queries (plan.Order q v) = q < queries
NamesWithin levels queries (plan.Rows q l t) = q < queries

-- what is visible behind the code of a step
abbrev pub in_step : Context → List Table → PlanStep → ℕ → Context
in_step g tables (plan.Const c) n = g
in_step g tables (plan.Level k) n = g
in_step g tables (plan.Add a b) n = with_reg g n false kind.Word
in_step g tables (plan.Sub a b) n = with_reg g n false kind.Word
in_step g tables (plan.Join q r k) n = with_reg g n false kind.Word
in_step g tables (plan.Div a k) n = with_reg g n false kind.Word
in_step g tables (plan.Rem a k) n = with_reg g n false kind.Word
in_step g tables (plan.Order q v) n = in_level g (Cell (table tables q).source) n
in_step g tables (plan.Rows q l t) n = in_level g (Cell (table tables q).source) n

abbrev pub in_recovery : Context → List Table → List PlanStep → ℕ → Context
in_recovery g tables [] n = g
in_recovery g tables (x ∷ steps) n = in_recovery (in_step g tables x n) tables steps (n + names x)

-- the registers of the coordinates, the sources of the tables and the dims of the extents are visible, and no register from n on is
pub record Room (g : Context) (levels : List Coordinate) (tables : List Table) (n : ℕ) : Type 0 where
  pub fresh : FreshFrom g n
  pub coordinates : (k : ℕ) → k < length levels → is_some (g.regs (coordinate levels k).reg) ≡ true
  pub sources : (q : ℕ) → q < length tables → nat_lt (table tables q).source g.sources ≡ true
  pub extents : (q : ℕ) → q < length tables → sees_dim g (table tables q).extent ≡ true

-- around a typed block the code is typed; inside, each term is fine, and registers behind the code's own are fresh
pub record RecoveryFits : Type 0 where
  pub typed : (g : Context) (levels : List Coordinate) (tables : List Table) (steps : List PlanStep) (n : ℕ) (inner : Code) → Room g levels tables n → All (NamesWithin (length levels) (length tables)) steps → Typed (in_recovery g tables steps n) inner → Typed g (recovery levels tables steps [] n inner)
  pub terms_fine : (g : Context) (levels : List Coordinate) (tables : List Table) (steps : List PlanStep) (n : ℕ) → Room g levels tables n → All (NamesWithin (length levels) (length tables)) steps → (k : ℕ) → fine (in_recovery g tables steps n) (term_at levels steps n k) ≡ true
  pub fresh : (g : Context) (levels : List Coordinate) (tables : List Table) (steps : List PlanStep) (n : ℕ) → Room g levels tables n → Room (in_recovery g tables steps n) levels tables (n + names_in steps)
