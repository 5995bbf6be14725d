-- Recovery by a plan.
use Rattle.std.specs.Prelude.{ℕ, ◌<◌, ◌+◌, ◌*◌, ◌^◌, ℤ, pos, ◌+ℤ◌, ◌-ℤ◌, ◌*ℤ◌, ◌≤ℤ◌, ◌<ℤ◌, List, [], ◌∷◌, ◌++◌, map, length, slice_index_or, ◌≡◌, Option, Some, None, FitsSigned, All}
use Rattle.std.proofs.Common.{w64}
use Rattle.std.specs.Int.{int_div_euclid, int_rem_euclid}
use Rattle.us_expr.specs.declared.ranges.Range.{Range}
use Rattle.us_expr.specs.Tree.{Tree, RowIndex, ColIndex, Number, Variable, Sum, Difference, Quotient, Remainder}
use Rattle.us_expr.specs.Range.{range}
use Rattle.us_format.specs.Lists.{then_do, nth, cell, nat_of}
use Rattle.us_format.specs.Matrix.{Shape}
use Rattle.us_format.specs.Declaration.{Part}
use Rattle.us_format.specs.Coordinates.{level_range, span}
use Rattle.us_format.specs.Known.{Give, Itself, OfLevel, Plus, Minus, Joined, Over, Rest as RestGive, OrderAt, RowsAt, Steps, known_of}
use Rattle.us_format.specs.Recover.{Found, checked, recovered, plan_of}
use Rattle.us_invert.specs.Plan.{give_at, IsStepOf}
use Rattle.us_invert.specs.declared.steps.PlanStep.{PlanStep}
use Rattle.us_invert.specs.declared.steps.PlanStep.TheVariants.{Const, Level, Add, Sub, Join, Div, Rem, Order, Rows}
use Rattle.us_invert.specs.declared.recovering.Cell.{Cell}

-- the tables of the queries: of each the list with its number
abbrev pub tables_of : List (List ℤ) → List ℕ → List (List ℤ)
tables_of buffers at = map (λ k. nth buffers k) at

-- what a climb left
abbrev pub found_of : List ℤ → List (List ℤ) → List ℕ → List ℕ → Found
found_of values buffers at extents = record { coords = map nat_of values; extents = extents; tables = tables_of buffers at }

-- the indices as a pair
abbrev pub cell_of : Option Cell → Option (ℤ × ℤ)
cell_of None = None
cell_of (Some c) = Some (pos c.i, pos c.j)

-- a coordinate lies below the size of the range of its level
abbrev pub IsCoordinate : List ℤ → Range → Give → Type 0
IsCoordinate values r (OfLevel k) = (k < length values) × (pos 0 ≤ℤ cell values k) × (cell values k <ℤ pos (span r))
IsCoordinate values r (Itself c) = Unit {0}
IsCoordinate values r (Plus a b) = Unit {0}
IsCoordinate values r (Minus a b) = Unit {0}
IsCoordinate values r (Joined q s k) = Unit {0}
IsCoordinate values r (Over a k) = Unit {0}
IsCoordinate values r (RestGive a k) = Unit {0}
IsCoordinate values r (OrderAt q v) = Unit {0}
IsCoordinate values r (RowsAt q l t) = Unit {0}

-- a step that gives a level has a coordinate in the range of its expression
abbrev pub HasCoordinate : ℕ → ℕ → List Range → List ℤ → Tree × Give → Type 0
HasCoordinate rows cols vars values x = IsCoordinate values (range rows cols vars x.0) x.1

-- the plan of a part; the expressions of its steps, and no others, have the ranges that they have in the part
pub record IsRecoveryOf (plan : Steps) (rows cols : ℕ) (vars : List Range) (extents : List ℕ) (s : Shape) (p : Part) : Type 0 where
  pub ranges_are : All (λ x. level_range s extents p x.0 ≡ range rows cols vars x.0) plan
  pub plan_is : plan ≡ plan_of p.levels p.queries

-- ---- one step

-- the value that a step gives, before its test, where the steps before it have the values `kept`; lo is the low end of the range of its expression
abbrev pub step_value : List ℤ → ℤ → Found → PlanStep → ℤ
step_value kept lo f (Const c) = pos c
step_value kept lo f (Level k) = pos (slice_index_or f.coords k 0) +ℤ lo
step_value kept lo f (Add a b) = cell kept a +ℤ cell kept b
step_value kept lo f (Sub a b) = cell kept a -ℤ cell kept b
step_value kept lo f (Join q r k) = cell kept q *ℤ pos k +ℤ cell kept r
step_value kept lo f (Div a k) = int_div_euclid (cell kept a) (pos k)
step_value kept lo f (Rem a k) = int_rem_euclid (cell kept a) (pos k)
step_value kept lo f (Order q v) = cell (nth f.tables q) (nat_of (cell kept v))
step_value kept lo f (Rows q l t) = cell (nth f.tables q) (nat_of (cell kept l) * slice_index_or f.extents q 0 + nat_of (cell kept t)) -ℤ pos 1

-- a step that divides has a positive divisor
abbrev pub HasDivisor : PlanStep → Type 0
HasDivisor (Div a k) = 0 < k
HasDivisor (Rem a k) = 0 < k
HasDivisor (Const c) = Unit {0}
HasDivisor (Level k) = Unit {0}
HasDivisor (Add a b) = Unit {0}
HasDivisor (Sub a b) = Unit {0}
HasDivisor (Join q r k) = Unit {0}
HasDivisor (Order q v) = Unit {0}
HasDivisor (Rows q l t) = Unit {0}

-- a step that gives a level has a coordinate in the range
abbrev pub IsLevelStep : List ℤ → Range → PlanStep → Type 0
IsLevelStep values r (Level k) = (k < length values) × (pos 0 ≤ℤ cell values k) × (cell values k <ℤ pos (span r))
IsLevelStep values r (Const c) = Unit {0}
IsLevelStep values r (Add a b) = Unit {0}
IsLevelStep values r (Sub a b) = Unit {0}
IsLevelStep values r (Join q s k) = Unit {0}
IsLevelStep values r (Div a k) = Unit {0}
IsLevelStep values r (Rem a k) = Unit {0}
IsLevelStep values r (Order q v) = Unit {0}
IsLevelStep values r (Rows q l t) = Unit {0}

-- a level has a coordinate
abbrev pub IsPlaced : List ℤ → PlanStep → Type 0
IsPlaced values (Level k) = (k < length values) × (pos 0 ≤ℤ cell values k)
IsPlaced values (Const c) = Unit {0}
IsPlaced values (Add a b) = Unit {0}
IsPlaced values (Sub a b) = Unit {0}
IsPlaced values (Join q s k) = Unit {0}
IsPlaced values (Div a k) = Unit {0}
IsPlaced values (Rem a k) = Unit {0}
IsPlaced values (Order q v) = Unit {0}
IsPlaced values (Rows q l t) = Unit {0}

-- a value that isn't tested fits 64 bits
abbrev pub StartFits : PlanStep → ℤ → Type 0
StartFits (Const c) z = FitsSigned w64 z
StartFits (Level k) z = FitsSigned w64 z
StartFits _ z = Unit {0}

-- an index is a number below 2^32
abbrev pub IsIndexValue : Tree → ℤ → Type 0
IsIndexValue RowIndex z = (pos 0 ≤ℤ z) × (z <ℤ pos (2 ^ 32))
IsIndexValue ColIndex z = (pos 0 ≤ℤ z) × (z <ℤ pos (2 ^ 32))
IsIndexValue (Number c) z = Unit {0}
IsIndexValue (Variable v) z = Unit {0}
IsIndexValue (Sum a b) z = Unit {0}
IsIndexValue (Difference a b) z = Unit {0}
IsIndexValue (Quotient a k) z = Unit {0}
IsIndexValue (Remainder a k) z = Unit {0}

-- ---- the numbered steps, one after the other

-- a constant and a coordinate need no test; any other value has to lie in its range
abbrev pub tested : Range → PlanStep → ℤ → Option ℤ
tested r x z = checked r (give_at [] x) z

-- the values of the steps behind those that have the values `kept`, up to the first that isn't in the range of its expression
abbrev pub walked : Shape → Part → Found → List Tree → List PlanStep → List ℤ → Option (List ℤ)
walked s p f [] steps kept = Some kept
walked s p f (t ∷ ts) [] kept = Some kept
walked s p f (t ∷ ts) (x ∷ steps) kept =
    let r = level_range s f.extents p t in
    then_do (tested r x (step_value kept r.lo f x)) (λ z. walked s p f ts steps (kept ++ z ∷ []))

-- the indices of an entry by the numbered steps: the values of the two steps that give them
abbrev pub indices_by : Shape → Part → Found → List Tree → List PlanStep → ℕ → ℕ → Option (ℤ × ℤ)
indices_by s p f ts steps rows cols = then_do (walked s p f ts steps []) (λ zs. Some (cell zs rows, cell zs cols))

-- walking the steps of a part's plan recovers the indices
abbrev pub StepsRecover : Steps → List PlanStep → Type 0
StepsRecover plan steps =
    (s : Shape) (p : Part) (f : Found) (rows cols : ℕ) → plan ≡ plan_of p.levels p.queries → IsStepOf plan RowIndex rows → IsStepOf plan ColIndex cols
    → recovered s p f ≡ indices_by s p f (known_of plan) steps rows cols
