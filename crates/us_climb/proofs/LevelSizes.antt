-- The range of a level of an accepted declaration has ends of at most 2^37 in size.
use Rattle.std.proofs.Common.{ℕ, ◌*◌, ◌^◌, ◌<◌, ◌≤◌, List, arith}
use Rattle.std.specs.List.{All}
use Rattle.us_expr.specs.Tree.{node_count}
use Rattle.us_expr.specs.Range.{IsNear, IsRangeable}
use Rattle.us_expr.proofs.Bounds.{near_more, range_near}
use Rattle.us_format.specs.Coordinates.{level_range, variable_ranges}
use Rattle.us_format.specs.Matrix.{Shape}
use Rattle.us_decl.specs.Declares.{Declared}
use Rattle.us_judge.specs.Format.{part_at}
use Rattle.us_judge.specs.Views.{declaration_of}
use Rattle.us_judge.proofs.Accepted.{level_at, HasLevel}
use Rattle.us_judge.proofs.VariableRanges.{level-has_range}

pub level-near : (d : Declared) (k l : ℕ) (s : Shape) (extents : List ℕ) → HasLevel d k l → s.rows < 2 ^ 31 → s.cols < 2 ^ 31 → All (λ n. n ≤ 2 ^ 31) extents
    → (IsNear (2 ^ 37) (level_range s extents (part_at (declaration_of d) k) (level_at d k l)).lo) × (IsNear (2 ^ 37) (level_range s extents (part_at (declaration_of d) k) (level_at d k l)).hi)
level-near d k l s extents h rows cols few =
    let vars = variable_ranges s extents (part_at (declaration_of d) k) in
    let it : IsRangeable (variable_ranges s extents (part_at (declaration_of d) k)) (level_at d k l) = level-has_range d k l h s extents rows cols few in
    let near = range_near s.rows s.cols (variable_ranges s extents (part_at (declaration_of d) k)) (level_at d k l) rows cols (λ v b. (it.low v b, it.high v b)) it.within in
    (near_more (node_count (level_at d k l) * 2 ^ 31) (2 ^ 37) _ (omega (arith, it.small)) near.0, near_more (node_count (level_at d k l) * 2 ^ 31) (2 ^ 37) _ (omega (arith, it.small)) near.1)
