-- Places, steps and extents whose numbers fit a text.
use Rattle.std.specs.Prelude.{ℕ, suc, ◌+◌, ◌^◌, ◌<◌, ◌≤◌, List, [], ◌∷◌, length, ℤ, pos, negsuc}
use Rattle.us_code.specs.Limits.{FitsDim}
use Rattle.us_invert.specs.declared.steps.PlanStep.{PlanStep}
use Rattle.us_invert.specs.declared.steps.PlanStep.TheVariants as plan
use Rattle.us_gen_recover.specs.declared.places.Table.{Table}
use Rattle.us_gen_walk.specs.declared.places.Column.{Column}
use Rattle.us_gen_walk.specs.declared.places.Column.TheVariants as column
use Rattle.us_gen_walk.specs.declared.places.Loop.{Loop}
use Rattle.us_gen_walk.specs.declared.places.Loop.TheVariants as over
use Rattle.us_gen_walk.specs.declared.places.Slot.{Slot}
use Rattle.us_gen_unpack.specs.declared.listing.PartWalk.{PartWalk}
use Rattle.us_gen_opening.specs.declared.parts.Extent.{Extent}
use Rattle.us_gen_opening.specs.declared.parts.Opening.{Opening}

-- a low end is a number of less than 2^63 in size
abbrev pub FitsLow : ℤ → Type 0
FitsLow (pos k) = k < 2 ^ 63
FitsLow (negsuc k) = suc k < 2 ^ 63

abbrev pub FitsColumn : Column → Type 0
FitsColumn (column.Own k) = k < 2 ^ 32
FitsColumn (column.Packed k w digit) = (k < 2 ^ 32) × (0 < w) × (w < 2 ^ 63) × (digit < 2 ^ 63)

abbrev pub FitsLoop : Loop → Type 0
FitsLoop (over.Full size low) = FitsDim size × FitsLow low
FitsLoop (over.Nodes k more nodes crd low) = (k < 2 ^ 32) × FitsDim more × FitsDim nodes × FitsColumn crd × FitsLow low

abbrev pub FitLoops : List Loop → Type 0
FitLoops [] = Unit {0}
FitLoops (l ∷ ls) = FitsLoop l × FitLoops ls

abbrev pub FitSlots : List Slot → Type 0
FitSlots [] = Unit {0}
FitSlots (x ∷ xs) = FitsColumn x.crd × FitsLow x.low × FitSlots xs

abbrev pub FitTables : List Table → Type 0
FitTables [] = Unit {0}
FitTables (t ∷ ts) = (t.source < 2 ^ 32) × FitsDim t.extent × FitTables ts

-- the numbers of a step; a divisor isn't 0
abbrev pub FitsStep : PlanStep → Type 0
FitsStep (plan.Const c) = c < 2 ^ 63
FitsStep (plan.Level k) = Unit {0}
FitsStep (plan.Add a b) = Unit {0}
FitsStep (plan.Sub a b) = Unit {0}
FitsStep (plan.Join q r k) = k < 2 ^ 63
FitsStep (plan.Div a k) = (0 < k) × (k < 2 ^ 63)
FitsStep (plan.Rem a k) = (0 < k) × (k < 2 ^ 63)
FitsStep (plan.Order q v) = Unit {0}
FitsStep (plan.Rows q l t) = Unit {0}

abbrev pub FitSteps : List PlanStep → Type 0
FitSteps [] = Unit {0}
FitSteps (x ∷ xs) = FitsStep x × FitSteps xs

-- how many steps read a table
abbrev pub reads : PlanStep → ℕ
reads (plan.Const c) = 0
reads (plan.Level k) = 0
reads (plan.Add a b) = 0
reads (plan.Sub a b) = 0
reads (plan.Join q r k) = 0
reads (plan.Div a k) = 0
reads (plan.Rem a k) = 0
reads (plan.Order q v) = 1
reads (plan.Rows q l t) = 1

abbrev pub reads_in : List PlanStep → ℕ
reads_in [] = 0
reads_in (x ∷ xs) = reads x + reads_in xs

-- the loops over a part of at most six levels
pub record FitsWalk (x : PartWalk) : Type 0 where
  pub loops_fit : FitLoops x.places.loops.items
  pub values_fit : FitsColumn x.places.values
  pub slots_fit : FitSlots x.places.slots.items
  pub tables_fit : FitTables x.places.tables.items
  pub steps_fit : FitSteps x.steps.items
  pub few : length x.places.loops.items + length x.places.slots.items ≤ 6
  pub twice : reads_in x.steps.items ≤ 2

abbrev pub FitWalks : List PartWalk → Type 0
FitWalks [] = Unit {0}
FitWalks (x ∷ xs) = FitsWalk x × FitWalks xs

abbrev pub FitExtents : List Extent → Type 0
FitExtents [] = Unit {0}
FitExtents (e ∷ es) = (e.source < 2 ^ 32) × (e.dim < 2 ^ 32) × FitExtents es

-- what the phase of dims needs of a part of at most six levels and 16 queries
pub record FitsOpening (o : Opening) : Type 0 where
  pub extents_fit : FitExtents o.extents.items
  pub loops_fit : FitLoops o.loops.items
  pub values_fit : FitsColumn o.values
  pub few : length o.loops.items ≤ 6
  pub asked : length o.extents.items ≤ 16

abbrev pub FitOpenings : List Opening → Type 0
FitOpenings [] = Unit {0}
FitOpenings (o ∷ os) = FitsOpening o × FitOpenings os
