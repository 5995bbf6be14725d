-- The values of a walk lie in the ranges of their expressions, so they fit, and read tables in their bounds.
use Rattle.std.specs.Prelude.{◌≡◌, ℕ, ◌*◌, ◌^◌, ◌<◌, ◌≤◌, List, [], length, slice_index_or, ℤ, Some, FitsSigned}
use Rattle.std.proofs.Common.{w64}
use Rattle.us_expr.specs.declared.ranges.Range.{Range}
use Rattle.us_expr.specs.Tree.{Tree}
use Rattle.us_expr.specs.Range.{LiesIn, IsRangeable, index_range}
use Rattle.us_format.specs.Lists.{cell}
use Rattle.us_format.specs.Matrix.{Shape}
use Rattle.us_format.specs.Declaration.{Part}
use Rattle.us_format.specs.Coordinates.{variable_ranges, level_range, span}
use Rattle.us_format.specs.Recover.{Found}
use Rattle.us_known.specs.Table.{tree_at}
use Rattle.us_invert.specs.declared.steps.PlanStep.{PlanStep}
use Rattle.us_invert.specs.declared.steps.PlanStep.TheVariants as plan
use Rattle.us_invert.specs.Plan.{step_at, IsEarlier, IsSuited}
use Rattle.us_invert.specs.Recovery.{walked}
use Rattle.us_gen_recover.specs.Values.{IsPlaceOf, AreLaneAndSlot}

-- a coordinate is below the size of the range of its step's expression
abbrev pub IsBelowSpan : Found → Range → PlanStep → Type 0
IsBelowSpan f r (plan.Const c) = Unit {0}
IsBelowSpan f r (plan.Level k) = slice_index_or f.coords k 0 < span r
IsBelowSpan f r (plan.Add a b) = Unit {0}
IsBelowSpan f r (plan.Sub a b) = Unit {0}
IsBelowSpan f r (plan.Join q r' k) = Unit {0}
IsBelowSpan f r (plan.Div a k) = Unit {0}
IsBelowSpan f r (plan.Rem a k) = Unit {0}
IsBelowSpan f r (plan.Order q v) = Unit {0}
IsBelowSpan f r (plan.Rows q l t) = Unit {0}

-- step k of the expression t
pub record HasRange (sh : Shape) (p : Part) (f : Found) (k : ℕ) (t : Tree) (x : PlanStep) : Type 0 where
  pub earlier : IsEarlier k x
  pub suited : IsSuited t x
  pub rangeable : IsRangeable (variable_ranges sh f.extents p) t
  pub below : IsBelowSpan f (level_range sh f.extents p t) x

-- each value of a walk lies in the range of its expression, and fits 64 bits
abbrev pub WalkedValuesFit : Type 0
WalkedValuesFit =
    (sh : Shape) (p : Part) (f : Found) (ts : List Tree) (steps : List PlanStep) (zs : List ℤ) → sh.rows < 2 ^ 31 → sh.cols < 2 ^ 31
    → walked sh p f ts steps [] ≡ Some zs → length steps ≡ length ts → ((k : ℕ) → k < length steps → HasRange sh p f k (tree_at ts k) (step_at steps k))
    → (k : ℕ) → k < length steps → LiesIn (cell zs k) (level_range sh f.extents p (tree_at ts k)) × FitsSigned w64 (cell zs k)

-- a rank in the range of the indices is a place of a table of as many cells; a lane and a slot in their ranges are those of a table of lanes of slots
pub record RangesReach : Type 0 where
  pub rank : (xs : List ℤ) (n : ℕ) (z : ℤ) → LiesIn z (index_range n) → n ≤ length xs → IsPlaceOf xs z
  pub lane_and_slot : (xs : List ℤ) (lanes extent : ℕ) (l t : ℤ) → LiesIn l (index_range lanes) → LiesIn t (index_range extent) → lanes * extent ≤ length xs → length xs < 2 ^ 63 → AreLaneAndSlot xs extent l t
