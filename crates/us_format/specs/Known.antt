-- Which expressions the coordinates of some levels make known, and by which steps.
use Rattle.std.specs.Prelude.{ℕ, zero, suc, List, [], ◌∷◌, ◌++◌, map, length, take, Bool, true, false, ◌&&◌, nat_eq, if◌then◌else◌, Option, Some, None}
use Rattle.std.specs.List.{list_any}
use Rattle.us_expr.specs.Tree.{Tree, RowIndex, ColIndex, Number, Variable, Sum, Difference, Quotient, Remainder}
use Rattle.us_format.specs.Lists.{then_do, or_else, when, first_of, join}
use Rattle.us_format.specs.Declaration.{Query, Reorder, Schedule, argument, axis_of, index_of}

-- whether two expressions are the same
abbrev pub same_tree : Tree → Tree → Bool
same_tree RowIndex RowIndex = true
same_tree ColIndex ColIndex = true
same_tree (Number c) (Number d) = nat_eq c d
same_tree (Variable v) (Variable w) = nat_eq v w
same_tree (Sum a b) (Sum c d) = same_tree a c && same_tree b d
same_tree (Difference a b) (Difference c d) = same_tree a c && same_tree b d
same_tree (Quotient a k) (Quotient b l) = same_tree a b && nat_eq k l
same_tree (Remainder a k) (Remainder b l) = same_tree a b && nat_eq k l
same_tree _ _ = false

-- whether an expression is in a list
abbrev pub has : List Tree → Tree → Bool
has es e = list_any (λ x. same_tree x e) es

-- ---- the expressions of a part

-- the sub-expressions: operands before the whole, the left before the right
abbrev pub sub_expressions : Tree → List Tree
sub_expressions (Sum a b) = sub_expressions a ++ (sub_expressions b ++ Sum a b ∷ [])
sub_expressions (Difference a b) = sub_expressions a ++ (sub_expressions b ++ Difference a b ∷ [])
sub_expressions (Quotient a k) = sub_expressions a ++ Quotient a k ∷ []
sub_expressions (Remainder a k) = sub_expressions a ++ Remainder a k ∷ []
sub_expressions e = e ∷ []

-- the list that is found, and after it those of the second list that are not in it yet, each once
abbrev pub add_all : List Tree → List Tree → List Tree
add_all found [] = found
add_all found (e ∷ es) = add_all (if has found e then found else found ++ e ∷ []) es

-- the sub-expressions of the levels, then of the arguments of the queries, then both indices; each where it first stands
abbrev pub expressions : List Tree → List Query → List Tree
expressions levels queries =
    add_all [] (join (map sub_expressions levels) ++ (join (map (λ q. sub_expressions (argument q)) queries) ++ RowIndex ∷ ColIndex ∷ []))

-- ---- how a value is given

-- what gives an expression its value
pub data Give : Type 0 where
  -- a constant
  Itself : ℕ → Give
  -- the coordinate of a level plus the low end of its range
  OfLevel : ℕ → Give
  -- the sum and the difference of two values
  Plus : Tree → Tree → Give
  Minus : Tree → Tree → Give
  -- quotient * k + remainder
  Joined : Tree → Tree → ℕ → Give
  -- the quotient and the remainder by k
  Over : Tree → ℕ → Give
  Rest : Tree → ℕ → Give
  -- the index at a rank, and at a lane and a slot, in the table of a query
  OrderAt : ℕ → Tree → Give
  RowsAt : ℕ → Tree → Tree → Give

-- a term of a known sum whose other term is known
abbrev pub from_sum : List Tree → Tree → Tree → Option Give
from_sum known e (Sum a b) =
    if has known (Sum a b) then or_else (when (same_tree a e && has known b) (Minus (Sum a b) b)) (when (same_tree b e && has known a) (Minus (Sum a b) a)) else None
from_sum known e _ = None

-- an operand of a known difference whose other operand is known
abbrev pub from_difference : List Tree → Tree → Tree → Option Give
from_difference known e (Difference a b) =
    if has known (Difference a b) then or_else (when (same_tree a e && has known b) (Plus (Difference a b) b)) (when (same_tree b e && has known a) (Minus a (Difference a b))) else None
from_difference known e _ = None

-- the operand of a known quotient and a known remainder by one number
abbrev pub from_quotient : List Tree → Tree → Tree → Option Give
from_quotient known e (Quotient a k) = when (same_tree a e && (has known (Quotient a k) && has known (Remainder a k))) (Joined (Quotient a k) (Remainder a k) k)
from_quotient known e _ = None

-- the index of the known variable v of a reorder, the queries being numbered from q on
abbrev pub order_for : List Tree → Tree → ℕ → ℕ → List Query → Option Give
order_for known e v q [] = None
order_for known e v q (Reorder w t ∷ qs) = or_else (when (nat_eq w v && (same_tree (index_of (axis_of t)) e && has known (Variable v))) (OrderAt q (Variable v))) (order_for known e v (suc q) qs)
order_for known e v q (_ ∷ qs) = order_for known e v (suc q) qs

-- the index of a known reorder variable
abbrev pub from_reorder : List Query → List Tree → Tree → Tree → Option Give
from_reorder queries known e (Variable v) = order_for known e v 0 queries
from_reorder queries known e _ = None

-- the index of a schedule with the lane variable v whose lane and slot are known, the queries being numbered from q on
abbrev pub rows_for : List Tree → Tree → ℕ → ℕ → List Query → Option Give
rows_for known e v q [] = None
rows_for known e v q (Schedule l s t n ∷ qs) =
    or_else (when (nat_eq l v && (same_tree (index_of (axis_of t)) e && (has known (Variable l) && has known (Variable s)))) (RowsAt q (Variable l) (Variable s))) (rows_for known e v (suc q) qs)
rows_for known e v q (_ ∷ qs) = rows_for known e v (suc q) qs

-- the index of a schedule whose lane and slot are known
abbrev pub from_schedule : List Query → List Tree → Tree → Tree → Option Give
from_schedule queries known e (Variable v) = rows_for known e v 0 queries
from_schedule queries known e _ = None

-- a sum, a difference, a quotient or a remainder whose operands are known
abbrev pub from_operands : List Tree → Tree → Option Give
from_operands known (Sum a b) = when (has known a && has known b) (Plus a b)
from_operands known (Difference a b) = when (has known a && has known b) (Minus a b)
from_operands known (Quotient a k) = when (has known a) (Over a k)
from_operands known (Remainder a k) = when (has known a) (Rest a k)
from_operands known _ = None

-- what gives e by the first rule that applies, at its first instance along the list es
abbrev pub rule : List Tree → List Query → List Tree → Tree → Option Give
rule es queries known e =
    or_else (first_of (from_sum known e) es)
    (or_else (first_of (from_difference known e) es)
    (or_else (first_of (from_quotient known e) es)
    (or_else (first_of (from_reorder queries known e) es)
    (or_else (first_of (from_schedule queries known e) es)
    (from_operands known e)))))

-- ---- passes

-- expressions in the order in which they get values, each with what gives its value
abbrev pub Steps : Type 0
Steps = List (Tree × Give)

-- the expressions that have values
abbrev pub known_of : Steps → List Tree
known_of = map (λ s. s.0)

-- the number of the first level that is e, the levels being numbered from k on
abbrev pub level_of : ℕ → List Tree → Tree → Option ℕ
level_of k [] e = None
level_of k (l ∷ ls) e = if same_tree l e then Some k else level_of (suc k) ls e

-- what gives e its value at the start, where the levels `given` have coordinates
abbrev pub at_start : List Tree → Tree → Option Give
at_start given (Number c) = Some (Itself c)
at_start given e = then_do (level_of 0 given e) (λ k. Some (OfLevel k))

-- one step more, if there is one
abbrev pub with_step : Steps → Tree → Option Give → Steps
with_step steps e None = steps
with_step steps e (Some g) = steps ++ (e, g) ∷ []

-- the constants and levels along a list
abbrev pub start : List Tree → List Tree → Steps → Steps
start given [] steps = steps
start given (e ∷ es) steps = start given es (with_step steps e (at_start given e))

-- a step for e, unless it has a value or no rule applies
abbrev pub step_for : List Tree → List Query → Steps → Tree → Steps
step_for all queries steps e = if has (known_of steps) e then steps else with_step steps e (rule all queries (known_of steps) e)

-- once through a list; a value that was given earlier in the pass counts
abbrev pub one_pass : List Tree → List Query → List Tree → Steps → Steps
one_pass all queries [] steps = steps
one_pass all queries (e ∷ es) steps = one_pass all queries es (step_for all queries steps e)

-- so many passes
abbrev pub passes : ℕ → List Tree → List Query → Steps → Steps
passes zero all queries steps = steps
passes (suc n) all queries steps = passes n all queries (one_pass all queries all steps)

-- what the first `count` levels give, in the order in which it is given. A pass that adds anything adds one of the list, so as many passes as the list is long are enough
abbrev pub given_steps : List Tree → List Query → ℕ → Steps
given_steps levels queries count =
    let es = expressions levels queries in passes (length es) es queries (start (take count levels) es [])

-- whether the first `count` levels make e known
abbrev pub is_known : List Tree → List Query → ℕ → Tree → Bool
is_known levels queries count e = has (known_of (given_steps levels queries count)) e
