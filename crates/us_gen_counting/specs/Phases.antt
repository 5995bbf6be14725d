-- The phases that count queries over the columns of entries.
use Rattle.std.specs.Prelude.{ℕ, ◌+◌, cond, List, [], ◌∷◌, ◌++◌, map, nat_eq, if◌then◌else◌}
use Rattle.std.specs.List.{range_with_len}
use Rattle.us_code.specs.declared.program.Dim.TheVariants as dim
use Rattle.us_code.specs.declared.program.Buf.TheVariants as buf
use Rattle.us_code.specs.declared.program.CellKind.TheVariants as kind
use Rattle.us_code.specs.declared.program.Make.{Make}
use Rattle.us_code.specs.declared.pieces.Columns.{Columns}
use Rattle.us_code.specs.Plain.{Number, Reg, Code, End, Load, ◌+++◌, LineTree, Of, Product, PhaseTree}
use Rattle.us_expr.specs.declared.queries.Axis.{Axis}
use Rattle.us_expr.specs.declared.queries.Axis.TheVariants.{Rows, Cols}
use Rattle.us_expr.specs.Tree.{Tree}
use Rattle.us_format.specs.Matrix.{Shape, indices}
use Rattle.us_format.specs.Lists.{among}
use Rattle.us_format.specs.Declaration.{Query, SumOf, Enumerate, Reorder, Schedule, axis_of, defines, has_extent, has_table}
use Rattle.us_format.specs.Rules.{is_index}
use Rattle.us_gen_query.specs.Filling.{fill}
use Rattle.us_gen_query.specs.Counting.{enumerate, sum}
use Rattle.us_gen_query.specs.Reordering.{reorder}
use Rattle.us_gen_query.specs.Scheduling.{schedule, rows}
use Rattle.us_gen_query.specs.declared.scheduling.ScheduleBuffers.{ScheduleBuffers}

-- ---- new buffers

-- of a word for each entry, of places of entries, and of one word
abbrev pub words : ℕ → Columns → Make
words b cs = record { buf = b; len = dim.Name cs.count; cell = kind.Word }

abbrev pub places : ℕ → Columns → Make
places b cs = record { buf = b; len = dim.Name cs.count; cell = kind.Below (dim.Name cs.count) }

abbrev pub one_word : ℕ → Make
one_word b = record { buf = b; len = dim.Number 1; cell = kind.Word }

-- of a word for each index, and of a number below a bound
abbrev pub counts : ℕ → ℕ → Make
counts b size = record { buf = b; len = dim.Number size; cell = kind.Word }

abbrev pub below : ℕ → ℕ → ℕ → Make
below b size bound = record { buf = b; len = dim.Number size; cell = kind.Below (dim.Number bound) }

-- ---- the values of an argument

-- the column of an index
abbrev pub index_column : Columns → Axis → ℕ
index_column cs Rows = cs.i
index_column cs Cols = cs.j

-- the column of the values of an argument: that of an index where it is one alone, else buffer n, which is made and filled first
abbrev pub key : Columns → Tree → ℕ → ℕ
key cs e n = cond (is_index e) (index_column cs (axis_of e)) n

abbrev pub key_makes : Columns → Tree → ℕ → List Make → List Make
key_makes cs e n more = cond (is_index e) more (words n cs ∷ more)

abbrev pub key_fill : Columns → Tree → ℕ → Code → Code
key_fill cs e n rest = cond (is_index e) rest (fill cs e n (n + 8) +++ rest)

-- ---- the phases of a query, whose numbers are n to n + 63: n + 2 is the column of its variable, n + 3 its extent, n + 11 its table

abbrev pub count_makes : Columns → ℕ → Make → List Make
count_makes cs n last = places (n + 1) cs ∷ words (n + 2) cs ∷ last ∷ []

abbrev pub sum_phase : Columns → Tree → ℕ → PhaseTree
sum_phase cs e n = record {
  makes = key_makes cs e n (count_makes cs n (words (n + 3) cs));
  body = key_fill cs e n (sum cs (key cs e n) (n + 1) (n + 2) (n + 3) (n + 44));
  lines = [];
}

abbrev pub enumerate_phase : Columns → Tree → ℕ → PhaseTree
enumerate_phase cs e n = record {
  makes = key_makes cs e n (count_makes cs n (one_word (n + 3)));
  body = key_fill cs e n (enumerate cs (key cs e n) (n + 1) (n + 2) (n + 3) (n + 44));
  lines = [];
}

abbrev pub reorder_phase : Shape → Columns → Axis → ℕ → PhaseTree
reorder_phase s cs axis n = record {
  makes = counts n (indices axis s) ∷ below (n + 1) (indices axis s) (indices axis s) ∷ words (n + 2) cs
      ∷ below (n + 11) (indices axis s) (indices axis s) ∷ [];
  body = reorder cs (index_column cs axis) (dim.Number (indices axis s)) n (n + 11) (n + 1) (n + 2) (n + 16);
  lines = [];
}

-- the buffers of a schedule
abbrev pub schedule_buffers : ℕ → ScheduleBuffers
schedule_buffers n = record { counts = n; lane = n + 1; slot = n + 6; loads = n + 7; used = n + 8; extent = n + 3; lanes = n + 2; slots = n + 5 }

abbrev pub schedule_makes : Columns → ℕ → ℕ → ℕ → List Make
schedule_makes cs size lanes n =
    counts n size ∷ below (n + 1) size lanes ∷ words (n + 2) cs ∷ one_word (n + 3) ∷ words (n + 5) cs
    ∷ counts (n + 6) size ∷ counts (n + 7) lanes ∷ counts (n + 8) lanes ∷ []

-- the loops of a schedule, and then its extent in a register
abbrev pub schedule_body : Shape → Columns → Axis → ℕ → ℕ → Code
schedule_body s cs axis lanes n =
    schedule cs (index_column cs axis) (dim.Number (indices axis s)) lanes (schedule_buffers n) (n + 16) +++ Load (n + 44) (buf.New (n + 3)) (Number 0) End

-- dim n + 9 is the slots of a lane, dim n + 10 the cells of the table
abbrev pub schedule_lines : ℕ → ℕ → List LineTree
schedule_lines lanes n = Of (n + 9) (Reg (n + 44)) ∷ Product (n + 10) (dim.Number lanes) (dim.Name (n + 9)) ∷ []

abbrev pub schedule_phase : Shape → Columns → Axis → ℕ → ℕ → PhaseTree
schedule_phase s cs axis lanes n = record {
  makes = schedule_makes cs (indices axis s) lanes n;
  body = schedule_body s cs axis lanes n;
  lines = schedule_lines lanes n;
}

abbrev pub rows_phase : Shape → Axis → ℕ → PhaseTree
rows_phase s axis n = record {
  makes = record { buf = n + 11; len = dim.Name (n + 10); cell = kind.Word } ∷ [];
  body = rows (dim.Number (indices axis s)) (schedule_buffers n) (dim.Name (n + 10)) (n + 9) (n + 11) (n + 40);
  lines = [];
}

abbrev pub schedule_phases : Shape → Columns → Axis → ℕ → ℕ → List PhaseTree
schedule_phases s cs axis lanes n = schedule_phase s cs axis lanes n ∷ rows_phase s axis n ∷ []

abbrev pub query_phases : Shape → Columns → Query → ℕ → List PhaseTree
query_phases s cs (SumOf v e) n = sum_phase cs e n ∷ []
query_phases s cs (Enumerate v e) n = enumerate_phase cs e n ∷ []
query_phases s cs (Reorder v e) n = reorder_phase s cs (axis_of e) n ∷ []
query_phases s cs (Schedule l u e lanes) n = schedule_phases s cs (axis_of e) lanes n

-- ---- the phases of queries, one after the other

abbrev pub count_phases : Shape → Columns → List Query → ℕ → List PhaseTree
count_phases s cs [] n = []
count_phases s cs (q ∷ qs) n = query_phases s cs q n ++ count_phases s cs qs (n + 64)

-- the column of a variable that a query defines
abbrev pub variable_column : Query → ℕ → ℕ → ℕ
variable_column (Schedule l u e lanes) v n = if nat_eq v l then n + 2 else n + 5
variable_column _ v n = n + 2

-- the column of a variable by the first query that defines it, or d where none does
abbrev pub column_of : List Query → ℕ → ℕ → ℕ → ℕ
column_of [] v n d = d
column_of (q ∷ qs) v n d = if among v (defines q) then variable_column q v n else column_of qs v (n + 64) d

-- the columns of variables
abbrev pub variable_columns : Columns → List Query → ℕ → ℕ → List ℕ
variable_columns cs qs names n = map (λ v. column_of qs v n cs.i) (range_with_len 0 names)

-- the buffers of the extents and those of the tables, in the order of the queries
abbrev pub extents : List Query → ℕ → List ℕ
extents [] n = []
extents (q ∷ qs) n = if has_extent q then (n + 3) ∷ extents qs (n + 64) else extents qs (n + 64)

abbrev pub tables : List Query → ℕ → List ℕ
tables [] n = []
tables (q ∷ qs) n = if has_table q then (n + 11) ∷ tables qs (n + 64) else tables qs (n + 64)

abbrev pub buffers : List Query → ℕ → List ℕ
buffers qs n = extents qs n ++ tables qs n
