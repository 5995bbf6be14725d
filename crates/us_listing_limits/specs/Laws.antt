-- Both phases keep the limits of a text, and sort nothing.
use Rattle.std.specs.Prelude.{ℕ, ◌^◌, ◌<◌, ◌≤◌, List, length, All}
use Rattle.us_code.specs.declared.pieces.Columns.{Columns}
use Rattle.us_code.specs.Plain.{PhaseTree}
use Rattle.us_expr.specs.Tree.{Tree}
use Rattle.us_expr.specs.Value.{IsWithin}
use Rattle.us_format.specs.Declaration.{Query, argument}
use Rattle.us_format.specs.Recover.{plan_of}
use Rattle.us_invert.specs.declared.steps.PlanStep.{PlanStep}
use Rattle.us_invert.specs.Plan.{HasSteps}
use Rattle.us_limits.specs.Small.{KeepText}
use Rattle.us_limits.specs.Orders.{HaveNoOrder}
use Rattle.us_gen_unpack.specs.declared.listing.PartWalk.{PartWalk}
use Rattle.us_gen_unpack.specs.Listing.{rooms}
use Rattle.us_gen_opening.specs.declared.parts.Opening.{Opening}
use Rattle.us_gen_opening.specs.Unpacking.{unpacking}
use Rattle.us_listing_limits.specs.Fitting.{FitSteps, reads_in, FitWalks, FitOpenings}

-- at most n items, and no `order`
pub record KeepsTextUnsorted (n : ℕ) (ps : List PhaseTree) : Type 0 where
  pub text : KeepText n ps
  pub unsorted : HaveNoOrder ps

abbrev pub UnpackingKeepsLimits : Type 0
UnpackingKeepsLimits =
    (c : Columns) (n k : ℕ) (os : List Opening) (xs : List PartWalk) → c.count < 2 ^ 32 → length os ≤ 4 → FitOpenings os → FitWalks xs → rooms xs ≤ 8192
    → KeepsTextUnsorted 16384 (unpacking c n k os xs)

-- each index is read from a table at most once
abbrev pub PlansReadTwice : Type 0
PlansReadTwice = (levels : List Tree) (queries : List Query) (steps : List PlanStep) → HasSteps (plan_of levels queries) steps → reads_in steps ≤ 2

-- the numbers of a plan's steps are those of its expressions
abbrev pub PlansFit : Type 0
PlansFit =
    (n : ℕ) (levels : List Tree) (queries : List Query) (steps : List PlanStep) → All (IsWithin n) levels → All (λ q. IsWithin n (argument q)) queries
    → HasSteps (plan_of levels queries) steps → FitSteps steps
