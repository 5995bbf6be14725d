-- Straight-line code that gives each step of a plan its value.
use Rattle.std.specs.Prelude.{ℕ, suc, ◌+◌, cond, eqb, List, [], ◌∷◌, ◌++◌, slice_index_or, ℤ, pos, negsuc}
use Rattle.us_code.specs.declared.program.Dim.{Dim}
use Rattle.us_code.specs.declared.program.Dim.TheVariants as dim
use Rattle.us_code.specs.Plain.{TermTree, Number, Reg, Add, Sub, Mul, Div, Rem, Code, Let, term_tree}
use Rattle.us_gen.specs.Nest.{cell_level}
use Rattle.us_gen.specs.Levels.{size_term}
use Rattle.us_invert.specs.declared.steps.PlanStep.{PlanStep}
use Rattle.us_invert.specs.declared.steps.PlanStep.TheVariants as plan
use Rattle.us_gen_recover.specs.declared.places.Coordinate.{Coordinate}
use Rattle.us_gen_recover.specs.declared.places.Table.{Table}
use Rattle.us_gen_recover.specs.declared.straight.Work.{Work}
use Rattle.us_gen_recover.specs.declared.straight.Work.TheVariants as made

-- the coordinate of a level, and the table of a query
abbrev pub coordinate : List Coordinate → ℕ → Coordinate
coordinate levels k = slice_index_or levels k (record { reg = 0; low = pos 0 })

abbrev pub table : List Table → ℕ → Table
table tables q = slice_index_or tables q (record { source = 0; extent = dim.Number 0 })

-- a register plus a number
abbrev pub shifted : ℕ → ℤ → TermTree
shifted r (pos k) = cond (eqb k 0) (Reg r) (Add (Reg r) (Number k))
shifted r (negsuc k) = Sub (Reg r) (Number (suc k))

-- how many registers a step names
abbrev pub names : PlanStep → ℕ
names (plan.Const c) = 0
names (plan.Level k) = 0
names (plan.Add a b) = 1
names (plan.Sub a b) = 1
names (plan.Join q r k) = 1
names (plan.Div a k) = 1
names (plan.Rem a k) = 1
names (plan.Order q v) = 2
names (plan.Rows q l t) = 2

abbrev pub names_in : List PlanStep → ℕ
names_in [] = 0
names_in (x ∷ steps) = names x + names_in steps

-- the term of a step, whose registers are from n on
abbrev pub step_term : List Coordinate → PlanStep → ℕ → TermTree
step_term levels (plan.Const c) n = Number c
step_term levels (plan.Level k) n = shifted (coordinate levels k).reg (coordinate levels k).low
step_term levels (plan.Add a b) n = Reg n
step_term levels (plan.Sub a b) n = Reg n
step_term levels (plan.Join q r k) n = Reg n
step_term levels (plan.Div a k) n = Reg n
step_term levels (plan.Rem a k) n = Reg n
step_term levels (plan.Order q v) n = Reg (n + 1)
step_term levels (plan.Rows q l t) n = Sub (Reg (n + 1)) (Number 1)

-- the terms of steps, whose registers are from n on, and that of the step with a number
abbrev pub terms : List Coordinate → List PlanStep → ℕ → List TermTree
terms levels [] n = []
terms levels (x ∷ steps) n = step_term levels x n ∷ terms levels steps (n + names x)

-- the term with a number
abbrev pub operand : List TermTree → ℕ → TermTree
operand known k = slice_index_or known k (Number 0)

abbrev pub term_at : List Coordinate → List PlanStep → ℕ → ℕ → TermTree
term_at levels steps n k = operand (terms levels steps n) k

-- a quotient times k, plus a remainder
abbrev pub joined : List TermTree → ℕ → ℕ → ℕ → TermTree
joined known q r k = Add (Mul (operand known q) (Number k)) (operand known r)

-- the place of a lane and a slot in a table of lanes of this many slots
abbrev pub place_in : List TermTree → Dim → ℕ → ℕ → TermTree
place_in known extent l t = Add (Mul (operand known l) (size_term extent)) (operand known t)

-- what a step does in front of those behind it: nothing, a register of a value, or a read of a source
pub data WorkTree : Type 0 where
  Nothing : WorkTree
  Value : (e : TermTree) → WorkTree
  Cell : (source : ℕ) → (at : TermTree) → WorkTree

abbrev pub work_tree : Work → WorkTree
work_tree made.Nothing = Nothing
work_tree (made.Value e) = Value (term_tree e)
work_tree (made.Cell k at) = Cell k (term_tree at)

-- where the earlier steps have the terms `known`
abbrev pub work : List Table → PlanStep → List TermTree → WorkTree
work tables (plan.Const c) known = Nothing
work tables (plan.Level k) known = Nothing
work tables (plan.Add a b) known = Value (Add (operand known a) (operand known b))
work tables (plan.Sub a b) known = Value (Sub (operand known a) (operand known b))
work tables (plan.Join q r k) known = Value (joined known q r k)
work tables (plan.Div a k) known = Value (Div (operand known a) k)
work tables (plan.Rem a k) known = Value (Rem (operand known a) k)
work tables (plan.Order q v) known = Cell (table tables q).source (operand known v)
work tables (plan.Rows q l t) known = Cell (table tables q).source (place_in known (table tables q).extent l t)

-- in front of a block, with registers from n on
abbrev pub in_front : WorkTree → ℕ → Code → Code
in_front Nothing n rest = rest
in_front (Value e) n rest = Let n e rest
in_front (Cell k at) n rest = cell_level at k n rest

-- the code of steps around a block, where the earlier steps have the terms `known` and registers are from n on
abbrev pub recovery : List Coordinate → List Table → List PlanStep → List TermTree → ℕ → Code → Code
recovery levels tables [] known n inner = inner
recovery levels tables (x ∷ steps) known n inner =
    in_front (work tables x known) n (recovery levels tables steps (known ++ step_term levels x n ∷ []) (n + names x) inner)
