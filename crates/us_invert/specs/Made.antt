-- A plan in the making.
use Rattle.std.specs.Prelude.{ℕ, ◌+◌, ◌<◌, List, [], ◌∷◌, ◌++◌, map, length, slice_index_or, slice_set, replicate, count_by, not, unwrap_or, Bool, false, ◌≡◌, IfSome, IfNone, Option, Some, None, is_some}
use Rattle.us_expr.specs.Tree.{Tree}
use Rattle.us_format.specs.Known.{has, Steps}
use Rattle.us_known.specs.declared.table.Node.{Node}
use Rattle.us_invert.specs.declared.steps.Source.{Source}
use Rattle.us_invert.specs.declared.steps.Source.TheVariants.{Constant, Level as LevelSource, Total, Less, Joined, Over, Rest, Order as OrderSource, Rows as RowsSource}
use Rattle.us_invert.specs.declared.steps.PlanStep.{PlanStep}
use Rattle.us_invert.specs.declared.steps.PlanStep.TheVariants.{Const, Level, Add, Sub, Join, Div, Rem, Order, Rows}
use Rattle.us_invert.specs.declared.making.Making.{Making}
use Rattle.us_known.specs.Table.{tree_at, trees}
use Rattle.us_invert.specs.Plan.{steps_of, AreSteps}

-- the number of a node's step, or 0
abbrev pub number_at : List (Option ℕ) → ℕ → ℕ
number_at numbers n = unwrap_or (slice_index_or numbers n None) 0

-- the step of a source, where the nodes have the numbers of these steps
abbrev pub step_of : List (Option ℕ) → Source → PlanStep
step_of numbers (Constant c) = Const c
step_of numbers (LevelSource k) = Level k
step_of numbers (Total a b) = Add (number_at numbers a) (number_at numbers b)
step_of numbers (Less a b) = Sub (number_at numbers a) (number_at numbers b)
step_of numbers (Joined q r k) = Join (number_at numbers q) (number_at numbers r) k
step_of numbers (Over a k) = Div (number_at numbers a) k
step_of numbers (Rest a k) = Rem (number_at numbers a) k
step_of numbers (OrderSource q v) = Order q (number_at numbers v)
step_of numbers (RowsSource q l t) = Rows q (number_at numbers l) (number_at numbers t)

-- the expressions of some nodes
abbrev pub trees_at : List Node → List ℕ → List Tree
trees_at ns made = map (tree_at (trees ns)) made

-- the steps so far
abbrev pub made_steps : List Node → Making → Steps
made_steps ns m = steps_of (trees_at ns m.made.items) m.steps.items

-- whether there is no step
abbrev pub is_free : Option ℕ → Bool
is_free o = not (is_some o)

-- the steps are of nodes, and each node with a step has the number of its step
pub record AreNumbered (ns : List Node) (made : List ℕ) (steps : List PlanStep) (numbers : List (Option ℕ)) : Type 0 where
  pub steps_are : AreSteps (trees_at ns made) steps
  pub same_length : length numbers ≡ length ns
  pub nodes : (k : ℕ) → k < length made → slice_index_or made k 0 < length ns
  pub there : (n k : ℕ) → slice_index_or numbers n None ≡ Some k → (k < length made) × (slice_index_or made k 0 ≡ n)
  pub back : (k : ℕ) → k < length made → slice_index_or numbers (slice_index_or made k 0) None ≡ Some k
  pub count : count_by is_free numbers + length made ≡ length ns

-- a plan in the making over the nodes ns
abbrev pub IsMaking : List Node → Making → Type 0
IsMaking ns m = AreNumbered ns m.made.items m.steps.items m.numbers.items

-- no step yet, over so many nodes
pub record IsEmpty (count : ℕ) (m : Making) : Type 0 where
  pub made : m.made.items ≡ []
  pub steps : m.steps.items ≡ []
  pub numbers : m.numbers.items ≡ replicate count None

-- the step of the node n is added, with what the source gives it
pub record AddsStep (old new : Making) (n : ℕ) (source : Source) : Type 0 where
  pub made : new.made.items ≡ old.made.items ++ n ∷ []
  pub steps : new.steps.items ≡ old.steps.items ++ step_of old.numbers.items source ∷ []
  pub numbers : new.numbers.items ≡ slice_set old.numbers.items n (Some (length old.made.items))

-- the number of the step of an expression, if it has one
pub record IsStepNumber (ts : List Tree) (e : Tree) (number : Option ℕ) : Type 0 where
  pub found : IfSome number (λ k. (k < length ts) × (tree_at ts k ≡ e))
  pub absent : IfNone number (has ts e ≡ false)
