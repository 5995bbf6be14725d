-- What a format keeps: a valid declaration that breaks no rule, the kinds of its levels, and the plans of its parts.
use Rattle.std.specs.Prelude.{◌≡◌, ℕ, List, [], map, slice_index_or, Bool, false, nat_eq, if◌then◌else◌, Option, Some, None}
use Rattle.us_expr.specs.declared.ranges.Range.{Range}
use Rattle.us_expr.specs.Range.{index_range}
use Rattle.us_expr.specs.Tree.{Tree, RowIndex, Variable}
use Rattle.us_format.specs.Coordinates.{level_range}
use Rattle.us_format.specs.Lists.{among}
use Rattle.us_format.specs.Matrix.{Shape, indices}
use Rattle.us_format.specs.declared.Kind.{Kind}
use Rattle.us_format.specs.Declaration.{Query, SumOf, Enumerate, Reorder, Schedule, Part, Declaration, axis_of}
use Rattle.us_decl.specs.declared.decl.Decl.{Decl}
use Rattle.us_decl.specs.Declares.{IsValid}
use Rattle.us_decl.specs.Views.{decl_view}
use Rattle.us_judge.specs.Acceptance.{counting_variables, first_refusal}
use Rattle.us_judge.specs.declared.level_ranges.LevelBounds.{LevelBounds}
use Rattle.us_judge.specs.Views.{declaration_of}
use Rattle.us_format.specs.Known.{Steps}
use Rattle.us_judge.specs.Kinds.{kinds_of}
use Rattle.us_judge.specs.Plans.{plan_for}

pub record IsFormat (d : Decl) (kinds : List (List Kind)) (plans : List Steps) : Type 0 where
  pub valid : IsValid (decl_view d)
  pub accepted : first_refusal (declaration_of (decl_view d)) ≡ None
  pub kinds_are : kinds ≡ map kinds_of (declaration_of (decl_view d)).parts
  pub plans_are : plans ≡ map plan_for (declaration_of (decl_view d)).parts

-- the part with this number, counted from 0; that with the number k, counted from 1, is `part_at d (k - 1)`
abbrev pub part_at : Declaration → ℕ → Part
part_at d k = slice_index_or d.parts k (record { names = 0; queries = []; levels = []; trim = []; merge = []; packs = [] })

-- the range of the coordinates of the level l of the part k, both counted from 0, where the queries of the part have these extents
abbrev pub range_with : Shape → List ℕ → Declaration → ℕ → ℕ → Range
range_with s extents d k l = level_range s extents (part_at d k) (slice_index_or (part_at d k).levels l RowIndex)

-- whether a level is a variable that counts up, and so ends where the data end
abbrev pub is_counted : Part → Tree → Bool
is_counted p (Variable v) = among v (counting_variables p.queries)
is_counted p _ = false

-- the ends of a level's range, as far as the shape tells them: no extent is in the lower end, and the upper end of a counted level is one
abbrev pub bounds_of : Shape → Part → Tree → LevelBounds
bounds_of s p e =
    let r = level_range s (map (λ q. 0) p.queries) p e in
    record { lo = r.lo; hi = if is_counted p e then None else Some r.hi }

-- those of the level l of the part k, both counted from 0
abbrev pub bounds_at : Shape → Declaration → ℕ → ℕ → LevelBounds
bounds_at s d k l = bounds_of s (part_at d k) (slice_index_or (part_at d k).levels l RowIndex)

-- the range that a query with this extent gives the variable v, if it gives one
abbrev pub range_by : Shape → ℕ → Query → ℕ → Option Range
range_by s n (SumOf w e) v = None
range_by s n (Enumerate w e) v = if nat_eq w v then Some (index_range n) else None
range_by s n (Reorder w t) v = if nat_eq w v then Some (index_range (indices (axis_of t) s)) else None
range_by s n (Schedule l u t lanes) v = if nat_eq l v then Some (index_range lanes) else (if nat_eq u v then Some (index_range n) else None)
