-- The steps of a plan, with numbers of earlier steps in place of expressions.
use Rattle.std.specs.Prelude.{ℕ, suc, max, ◌<◌, ◌≤◌, List, [], ◌∷◌, length, slice_index_or, ◌≡◌, All}
use Rattle.us_expr.specs.Tree.{Tree, node_count, RowIndex, ColIndex, Number, Quotient, Remainder}
use Rattle.us_format.specs.Declaration.{Query, argument}
use Rattle.us_format.specs.Known.{Give, Itself, OfLevel, Plus, Minus, Joined, Over, Rest as RestGive, OrderAt, RowsAt, Steps, known_of}
use Rattle.us_invert.specs.declared.steps.PlanStep.{PlanStep}
use Rattle.us_invert.specs.declared.steps.PlanStep.TheVariants.{Const, Level, Add, Sub, Join, Div, Rem, Order, Rows}
use Rattle.us_known.specs.Table.{tree_at}

-- what a step stands for, where the steps have the expressions ts
abbrev pub give_at : List Tree → PlanStep → Give
give_at ts (Const c) = Itself c
give_at ts (Level k) = OfLevel k
give_at ts (Add a b) = Plus (tree_at ts a) (tree_at ts b)
give_at ts (Sub a b) = Minus (tree_at ts a) (tree_at ts b)
give_at ts (Join q r k) = Joined (tree_at ts q) (tree_at ts r) k
give_at ts (Div a k) = Over (tree_at ts a) k
give_at ts (Rem a k) = RestGive (tree_at ts a) k
give_at ts (Order q v) = OrderAt q (tree_at ts v)
give_at ts (Rows q l t) = RowsAt q (tree_at ts l) (tree_at ts t)

-- steps with their expressions, where operands are numbers in the list `all_trees`
abbrev pub steps_with : List Tree → List Tree → List PlanStep → Steps
steps_with all_trees [] steps = []
steps_with all_trees (t ∷ ts) [] = []
steps_with all_trees (t ∷ ts) (x ∷ steps) = (t, give_at all_trees x) ∷ steps_with all_trees ts steps

-- the steps with the expressions ts
abbrev pub steps_of : List Tree → List PlanStep → Steps
steps_of ts steps = steps_with ts ts steps

-- the step with a number
abbrev pub step_at : List PlanStep → ℕ → PlanStep
step_at steps k = slice_index_or steps k (Const 0)

-- the operands are steps below k
abbrev pub IsEarlier : ℕ → PlanStep → Type 0
IsEarlier k (Const c) = Unit {0}
IsEarlier k (Level l) = Unit {0}
IsEarlier k (Add a b) = (a < k) × (b < k)
IsEarlier k (Sub a b) = (a < k) × (b < k)
IsEarlier k (Join q r d) = (q < k) × (r < k)
IsEarlier k (Div a d) = a < k
IsEarlier k (Rem a d) = a < k
IsEarlier k (Order q v) = v < k
IsEarlier k (Rows q l t) = (l < k) × (t < k)

-- a constant is that of its expression; a step that divides gives a quotient or a remainder by the same number
abbrev pub IsSuited : Tree → PlanStep → Type 0
IsSuited t (Div a k) = (x : Tree) × (t ≡ Quotient x k)
IsSuited t (Rem a k) = (x : Tree) × (t ≡ Remainder x k)
IsSuited t (Const c) = t ≡ Number c
IsSuited t (Level l) = Unit {0}
IsSuited t (Add a b) = Unit {0}
IsSuited t (Sub a b) = Unit {0}
IsSuited t (Join q r k) = Unit {0}
IsSuited t (Order q v) = Unit {0}
IsSuited t (Rows q l u) = Unit {0}

-- each step has one expression, no two have the same, and operands come first
pub record AreSteps (ts : List Tree) (steps : List PlanStep) : Type 0 where
  pub same_length : length steps ≡ length ts
  pub apart : (i j : ℕ) → i < length ts → j < length ts → tree_at ts i ≡ tree_at ts j → i ≡ j
  pub earlier : (k : ℕ) → k < length ts → IsEarlier k (step_at steps k)
  pub suited : (k : ℕ) → k < length ts → IsSuited (tree_at ts k) (step_at steps k)

-- at most 706 steps, of which the last gives an index, after the other index
pub record IsPlan (ts : List Tree) (steps : List PlanStep) (rows cols : ℕ) : Type 0 where
  pub steps_are : AreSteps ts steps
  pub few : length ts ≤ 706
  pub row : tree_at ts rows ≡ RowIndex
  pub col : tree_at ts cols ≡ ColIndex
  pub last : length ts ≡ suc (max rows cols)

-- the step of a plan with a number
abbrev pub item_at : Steps → ℕ → Tree × Give
item_at plan k = slice_index_or plan k (RowIndex, Itself 0)

-- the steps of a plan, with numbers of earlier steps for the expressions
pub record HasSteps (plan : Steps) (steps : List PlanStep) : Type 0 where
  pub same_length : length steps ≡ length plan
  pub earlier : (k : ℕ) → k < length plan → IsEarlier k (step_at steps k)
  pub gives : (k : ℕ) → k < length plan → give_at (known_of plan) (step_at steps k) ≡ (item_at plan k).1

-- the step with a number gives an expression its value
pub record IsStepOf (plan : Steps) (e : Tree) (n : ℕ) : Type 0 where
  pub below : n < length plan
  pub is : (item_at plan n).0 ≡ e

-- expressions of at most 32 nodes
pub record AreSmall (levels : List Tree) (queries : List Query) : Type 0 where
  pub levels_are : All (λ e. node_count e ≤ 32) levels
  pub arguments_are : All (λ q. node_count (argument q) ≤ 32) queries
