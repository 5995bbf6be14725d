-- What gives the nodes of a table their values.
use Rattle.std.specs.Prelude.{ℕ, ◌<◌, List, [], ◌∷◌, length, slice_index_or, slice_get, Bool, true, false, ◌&&◌, nat_eq, if◌then◌else◌, ◌≡◌, ◌⊎◌, IsTrue, Option, Some, None, is_some, IfSome}
use Rattle.us_expr.specs.declared.queries.Axis.{Axis}
use Rattle.us_expr.specs.declared.queries.Axis.TheVariants.{Rows as RowAxis, Cols as ColAxis}
use Rattle.us_expr.specs.Tree.{Tree}
use Rattle.us_format.specs.Lists.{or_else, when, first_of}
use Rattle.us_format.specs.Declaration.{Query, Reorder, Schedule, axis_of}
use Rattle.us_format.specs.Known.{has, Give, Itself, OfLevel, Plus, Minus, Joined as JoinedGive, Over as OverGive, Rest as RestGive, OrderAt, RowsAt, from_sum, from_difference, from_quotient, from_reorder, from_schedule, from_operands}
use Rattle.us_known.specs.declared.table.Node.{Node}
use Rattle.us_known.specs.declared.table.Node.TheVariants.{Row, Col, Variable, Sum, Difference, Quotient, Remainder}
use Rattle.us_invert.specs.declared.steps.Source.{Source}
use Rattle.us_invert.specs.declared.steps.Source.TheVariants.{Constant, Level, Total, Less, Joined, Over, Rest, Order, Rows}
use Rattle.us_invert.specs.declared.steps.Way.{Way}
use Rattle.us_invert.specs.declared.steps.Way.TheVariants.{Sum as BySum, Difference as ByDifference, Quotient as ByQuotient, Reorder as ByReorder, Schedule as BySchedule}
use Rattle.us_known.specs.Table.{tree_at, trees, IsNoNode}

-- what a source stands for, where the nodes have the trees ts
abbrev pub give_of : List Tree → Source → Give
give_of ts (Constant c) = Itself c
give_of ts (Level k) = OfLevel k
give_of ts (Total a b) = Plus (tree_at ts a) (tree_at ts b)
give_of ts (Less a b) = Minus (tree_at ts a) (tree_at ts b)
give_of ts (Joined q r k) = JoinedGive (tree_at ts q) (tree_at ts r) k
give_of ts (Over a k) = OverGive (tree_at ts a) k
give_of ts (Rest a k) = RestGive (tree_at ts a) k
give_of ts (Order q v) = OrderAt q (tree_at ts v)
give_of ts (Rows q l t) = RowsAt q (tree_at ts l) (tree_at ts t)

abbrev pub gives : List Tree → Option Source → Option Give
gives ts None = None
gives ts (Some x) = Some (give_of ts x)

-- whether a node has a step, where the nodes have the numbers of these steps
abbrev pub has_step : List (Option ℕ) → ℕ → Bool
has_step numbers n = is_some (slice_index_or numbers n None)

-- all operands of a source have steps
abbrev pub HasOperands : List (Option ℕ) → Source → Type 0
HasOperands numbers (Constant c) = Unit {0}
HasOperands numbers (Level k) = Unit {0}
HasOperands numbers (Total a b) = IsTrue (has_step numbers a) × IsTrue (has_step numbers b)
HasOperands numbers (Less a b) = IsTrue (has_step numbers a) × IsTrue (has_step numbers b)
HasOperands numbers (Joined q r k) = IsTrue (has_step numbers q) × IsTrue (has_step numbers r)
HasOperands numbers (Over a k) = IsTrue (has_step numbers a)
HasOperands numbers (Rest a k) = IsTrue (has_step numbers a)
HasOperands numbers (Order q v) = IsTrue (has_step numbers v)
HasOperands numbers (Rows q l t) = IsTrue (has_step numbers l) × IsTrue (has_step numbers t)

-- the nodes with steps are those of the known expressions, which are in the table
pub record AreNumbersOf (ns : List Node) (numbers : List (Option ℕ)) (known : List Tree) : Type 0 where
  pub same_length : length numbers ≡ length ns
  pub each : (k : ℕ) → k < length ns → has_step numbers k ≡ has known (tree_at (trees ns) k)
  pub members : (e : Tree) → IsTrue (has known e) → IsTrue (has (trees ns) e)

-- the source is what f gives, whatever known expressions have these steps; its operands have steps
pub record IsGiven (ns : List Node) (numbers : List (Option ℕ)) (f : List Tree → Option Give) (source : Option Source) : Type 0 where
  pub same : (known : List Tree) → AreNumbersOf ns numbers known → gives (trees ns) source ≡ f known
  pub operands : IfSome source (HasOperands numbers)

-- ---- one node from another

-- a term of the sum s
abbrev pub sum_source : List (Option ℕ) → ℕ → ℕ → Node → Option Source
sum_source numbers e s (Sum a b) =
    if has_step numbers s then or_else (when (nat_eq a e && has_step numbers b) (Less s b)) (when (nat_eq b e && has_step numbers a) (Less s a)) else None
sum_source numbers e s _ = None

-- an operand of the difference s
abbrev pub difference_source : List (Option ℕ) → ℕ → ℕ → Node → Option Source
difference_source numbers e s (Difference a b) =
    if has_step numbers s then or_else (when (nat_eq a e && has_step numbers b) (Total s b)) (when (nat_eq b e && has_step numbers a) (Less a s)) else None
difference_source numbers e s _ = None

-- the operand of the quotient s and of the remainder by the same number
abbrev pub IsQuotientSource : List Node → List (Option ℕ) → ℕ → ℕ → Node → Option Source → Type 0
IsQuotientSource ns numbers e s (Quotient a k) source =
    ((m : ℕ) × (slice_get ns m ≡ Some (Remainder a k)) × (source ≡ when (nat_eq a e && (has_step numbers s && has_step numbers m)) (Joined s m k)))
    ⊎ (IsNoNode ns (Remainder a k) × (source ≡ None))
IsQuotientSource ns numbers e s _ source = source ≡ None

-- whether a node is the index of an axis
abbrev pub is_index : Axis → Node → Bool
is_index RowAxis Row = true
is_index ColAxis Col = true
is_index _ _ = false

-- the index of the reorder with the number q, if v is its variable, whose node is s
abbrev pub order_source : List (Option ℕ) → Node → ℕ → ℕ → ℕ → Query → Option Source
order_source numbers index s v q (Reorder w t) = when (nat_eq w v && (is_index (axis_of t) index && has_step numbers s)) (Order q s)
order_source numbers index s v q _ = None

-- the index of the schedule with the number q, if v is its lane, whose node is s
abbrev pub IsRowsSource : List Node → List (Option ℕ) → Node → ℕ → ℕ → ℕ → Query → Option Source → Type 0
IsRowsSource ns numbers index s v q (Schedule l u t n) source =
    ((m : ℕ) × (slice_get ns m ≡ Some (Variable u)) × (source ≡ when (nat_eq l v && (is_index (axis_of t) index && (has_step numbers s && has_step numbers m))) (Rows q s m)))
    ⊎ (IsNoNode ns (Variable u) × (source ≡ None))
IsRowsSource ns numbers index s v q _ source = source ≡ None

-- a sum, a difference, a quotient or a remainder from its operands
abbrev pub operands_source : List (Option ℕ) → Node → Option Source
operands_source numbers (Sum a b) = when (has_step numbers a && has_step numbers b) (Total a b)
operands_source numbers (Difference a b) = when (has_step numbers a && has_step numbers b) (Less a b)
operands_source numbers (Quotient a k) = when (has_step numbers a) (Over a k)
operands_source numbers (Remainder a k) = when (has_step numbers a) (Rest a k)
operands_source numbers _ = None

-- what gives e in one way from an expression
abbrev pub from_way : Way → List Query → List Tree → Tree → Tree → Option Give
from_way BySum queries known e s = from_sum known e s
from_way ByDifference queries known e s = from_difference known e s
from_way ByQuotient queries known e s = from_quotient known e s
from_way ByReorder queries known e s = from_reorder queries known e s
from_way BySchedule queries known e s = from_schedule queries known e s

-- what gives e by the first of the ways that gives it, from the first expression; else from its operands
abbrev pub by_ways : List Way → List Tree → List Query → List Tree → Tree → Option Give
by_ways [] es queries known e = from_operands known e
by_ways (w ∷ ws) es queries known e = or_else (first_of (from_way w queries known e) es) (by_ways ws es queries known e)
