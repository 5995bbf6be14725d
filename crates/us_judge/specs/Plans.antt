-- The plans of parts.
use Rattle.std.specs.Prelude.{◌≤◌, length}
use Rattle.us_format.specs.Declaration.{Part}
use Rattle.us_format.specs.Known.{Steps}
use Rattle.us_format.specs.Recover.{plan_of}
use Rattle.us_invert.specs.Plan.{AreSmall}

-- the plan by which the indices of a part's entries are recovered
abbrev pub plan_for : Part → Steps
plan_for p = plan_of p.levels p.queries

-- at most six levels and 16 queries, of at most 32 nodes each
pub record IsPlannable (p : Part) : Type 0 where
  pub few : length p.levels ≤ 6
  pub asked : length p.queries ≤ 16
  pub small : AreSmall p.levels p.queries
