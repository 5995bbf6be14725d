-- The steps of a part's plan recover each entry.
use Rattle.std.specs.Prelude.{◌≡◌, ℕ, ◌^◌, ◌<◌, List, length, slice_get, Some}
use Rattle.us_expr.specs.Tree.{Tree, RowIndex, ColIndex}
use Rattle.us_expr.specs.Range.{range_at, IsNear}
use Rattle.us_format.specs.Lists.{nth}
use Rattle.us_format.specs.Matrix.{Shape, Entry, IsMatrixOf}
use Rattle.us_format.specs.Declaration.{Part}
use Rattle.us_format.specs.Coordinates.{variable_ranges, level_range}
use Rattle.us_format.specs.Known.{Steps, known_of}
use Rattle.us_format.specs.Recover.{plan_of}
use Rattle.us_format.specs.Rules.{IsLawful}
use Rattle.us_format.specs.Laws.{contents_of}
use Rattle.us_invert.specs.declared.steps.PlanStep.{PlanStep}
use Rattle.us_invert.specs.Plan.{AreSmall, HasSteps, IsStepOf}
use Rattle.us_invert.specs.Recovery.{StepsRecover}
use Rattle.us_gen_recover.specs.Recovery.{coordinate}
use Rattle.us_gen_walk.specs.declared.places.Places.{Places}
use Rattle.us_gen_walk.specs.Walk.{coordinates}
use Rattle.us_gen_walk.specs.Runs.{Recovers}

-- small expressions, indices and variables of at most 2^31, tables below 2^63 cells
pub record HasSmallParts (s : Shape) (p : Part) (m : List Entry) : Type 0 where
  pub expressions : AreSmall p.levels p.queries
  pub rows : s.rows < 2 ^ 31
  pub cols : s.cols < 2 ^ 31
  pub low : (v : ℕ) → v < p.names → IsNear (2 ^ 31) (range_at (variable_ranges s (contents_of s p m).extents p) v).lo
  pub high : (v : ℕ) → v < p.names → IsNear (2 ^ 31) (range_at (variable_ranges s (contents_of s p m).extents p) v).hi
  pub tables : (q : ℕ) → length (nth (contents_of s p m).tables q) < 2 ^ 63

-- a coordinate for each level with the low end of its range, and a table for each query
pub record CoversPart (w : Places) (s : Shape) (p : Part) (m : List Entry) (n : ℕ) : Type 0 where
  pub levels : length (coordinates w n) ≡ length p.levels
  pub tables : length w.tables.items ≡ length p.queries
  pub lows : (k : ℕ) (e : Tree) → slice_get p.levels k ≡ Some e → (coordinate (coordinates w n) k).low ≡ (level_range s (contents_of s p m).extents p e).lo

-- on the buffers of a lawful part the steps of its plan give each entry its indices, within their ranges and tables
abbrev pub PlansRecover : Type 0
PlansRecover =
    (w : Places) (s : Shape) (p : Part) (m : List Entry) (plan : Steps) (steps : List PlanStep) (row col n : ℕ) → IsLawful p → IsMatrixOf s m → HasSmallParts s p m → CoversPart w s p m n
    → plan ≡ plan_of p.levels p.queries → HasSteps plan steps → StepsRecover plan steps → IsStepOf plan RowIndex row → IsStepOf plan ColIndex col
    → Recovers w s p m (known_of plan) steps row col n
