-- A declaration as plain data.
use Rattle.std.specs.Prelude.{ℕ, List, [], ◌∷◌, map, Bool, true, false, nat_eq}
use Rattle.us_expr.specs.declared.queries.Axis.{Axis}
use Rattle.us_expr.specs.declared.queries.Axis.TheVariants.{Rows, Cols}
use Rattle.us_expr.specs.declared.queries.Cond.{Cond}
use Rattle.us_expr.specs.declared.queries.Query.{Query as QueryCode}
use Rattle.us_expr.specs.declared.queries.Query.TheVariants.{Sum as SumCode, Enumerate as EnumerateCode, Reorder as ReorderCode, Schedule as ScheduleCode}
use Rattle.us_expr.specs.Tree.{Tree, tree, RowIndex, ColIndex}
use Rattle.us_format.specs.Lists.{join}

-- what defines a variable, or two: the numbers of the variables, the argument, and the number of lanes
pub data Query : Type 0 where
  SumOf : ℕ → Tree → Query
  Enumerate : ℕ → Tree → Query
  Reorder : ℕ → Tree → Query
  Schedule : ℕ → ℕ → Tree → ℕ → Query

-- a column that a pack may name: the coordinates of a level, or the values
pub data Column : Type 0 where
  LevelColumn : ℕ → Column
  ValueColumn : Column

-- a part: how many names it has, its queries and levels in order, the numbers of the trimmed and of the merged levels, its packs
pub record Part : Type 0 where
  pub names : ℕ
  pub queries : List Query
  pub levels : List Tree
  pub trim : List ℕ
  pub merge : List ℕ
  pub packs : List (List Column)

-- a declaration: the head's names and queries, the conditions, and one part more than there are conditions. The last part is over the entries for which no condition holds
pub record Declaration : Type 0 where
  pub head_names : ℕ
  pub head : List Query
  pub conds : List Cond
  pub parts : List Part

-- the axis that an index names
abbrev pub axis_of : Tree → Axis
axis_of ColIndex = Cols
axis_of _ = Rows

-- the index of an axis
abbrev pub index_of : Axis → Tree
index_of Rows = RowIndex
index_of Cols = ColIndex

-- the argument of a query
abbrev pub argument : Query → Tree
argument (SumOf v e) = e
argument (Enumerate v e) = e
argument (Reorder v e) = e
argument (Schedule l t e n) = e

-- the numbers of the variables that a query defines
abbrev pub defines : Query → List ℕ
defines (SumOf v e) = v ∷ []
defines (Enumerate v e) = v ∷ []
defines (Reorder v e) = v ∷ []
defines (Schedule l t e n) = l ∷ t ∷ []

-- the numbers of all variables that the queries define
abbrev pub defined : List Query → List ℕ
defined qs = join (map defines qs)

-- whether a query has an extent
abbrev pub has_extent : Query → Bool
has_extent (SumOf v e) = false
has_extent (Enumerate v e) = true
has_extent (Reorder v e) = false
has_extent (Schedule l t e n) = true

-- whether a query has a table
abbrev pub has_table : Query → Bool
has_table (SumOf v e) = false
has_table (Enumerate v e) = false
has_table (Reorder v e) = true
has_table (Schedule l t e n) = true

-- whether two columns are the same
abbrev pub same_column : Column → Column → Bool
same_column (LevelColumn a) (LevelColumn b) = nat_eq a b
same_column ValueColumn ValueColumn = true
same_column _ _ = false

-- the query of the program as plain data
abbrev pub query_of : QueryCode → Query
query_of (SumCode v e) = SumOf v (tree e)
query_of (EnumerateCode v e) = Enumerate v (tree e)
query_of (ReorderCode v e) = Reorder v (tree e)
query_of (ScheduleCode l t e n) = Schedule l t (tree e) n
