-- What stays the same while the positions of a part are read.
use Rattle.std.specs.Prelude.{◌≡◌, ℕ, ◌+◌, ◌-◌, ◌≤◌, ◌<◌, ◌^◌, ℤ, List, length, All, Option}
use Rattle.us_expr.specs.declared.ranges.Range.{Range}
use Rattle.us_expr.specs.Range.{IsRangeable}
use Rattle.us_format.specs.Lists.{then_do, cell}
use Rattle.us_format.specs.Matrix.{Shape, Entry}
use Rattle.us_format.specs.Program.{plain_shape}
use Rattle.us_format.specs.Declaration.{Part, Declaration}
use Rattle.us_format.specs.Coordinates.{variable_ranges}
use Rattle.us_format.specs.Known.{Steps}
use Rattle.us_format.specs.Reading.{extent_count, extents_in, tables_in as query_tables}
use Rattle.us_format.specs.Recover.{plan_of, recovered}
use Rattle.us_invert.specs.Recovery.{tables_of}
use Rattle.us_judge.specs.Format.{part_at}
use Rattle.us_judge.specs.Views.{declaration_of}
use Rattle.us_climb.specs.declared.layout.Layout.{Layout}
use Rattle.us_climb.specs.declared.reader.Reader.{Reader}
use Rattle.us_climb.specs.Entries.{entry_in}
use Rattle.us_climb.specs.Layout.{IsLayout, cells_at, climb_by}
use Rattle.us_climb.specs.Own.{buffers_before}
use Rattle.us_climb.specs.Parents.{AreParents, tables_in}

-- a declaration has a part with this number, counted from 1, and this is the number of the part's first buffer
pub record IsPlaced (d : Declaration) (number first : ℕ) : Type 0 where
  pub from_one : 1 ≤ number
  pub there : number ≤ length d.parts
  pub first_is : first ≡ buffers_before d.parts (number - 1)

-- the extents and the tables of the queries of a part, whose first buffer has this number
abbrev pub extents_from : ℕ → List (List ℤ) → Part → List ℕ
extents_from first bufs p = extents_in first bufs p.queries

abbrev pub tables_from : ℕ → List (List ℤ) → Part → List (List ℤ)
tables_from first bufs p = query_tables (first + extent_count p) bufs p.queries

-- the ranges of the variables are those of the part, whose queries have these extents, and the expressions of its plan have ranges
pub record HasRanges (s : Shape) (p : Part) (extents : List ℕ) (plan : Steps) (rows cols : ℕ) (vars : List Range) : Type 0 where
  pub rows_are : s.rows ≡ rows
  pub cols_are : s.cols ≡ cols
  pub rows_small : rows < 2 ^ 31
  pub cols_small : cols < 2 ^ 31
  pub vars_are : vars ≡ variable_ranges s extents p
  pub rangeable : All (λ x. IsRangeable vars x.0) plan

-- the part of a declaration with this number, counted from 1: its layout for these buffers, the parents that are known in advance, its plan, and its tables and extents
pub record IsReader (s : Shape) (d : Declaration) (number first : ℕ) (bufs : List (List ℤ)) (plan : Steps) (layout : Layout) (parents : List (List ℕ)) (rows cols : ℕ) (vars : List Range) (at extents : List ℕ) : Type 0 where
  pub from_one : 1 ≤ number
  pub there : number ≤ length d.parts
  pub few : length (part_at d (number - 1)).levels ≤ 6
  pub laid : IsLayout first s (extents_from first bufs (part_at d (number - 1))) (part_at d (number - 1)) layout
  pub parents_are : AreParents layout.levels.items parents bufs
  pub plan_is : plan ≡ plan_of (part_at d (number - 1)).levels (part_at d (number - 1)).queries
  pub ranges : HasRanges s (part_at d (number - 1)) (extents_from first bufs (part_at d (number - 1))) plan rows cols vars
  pub tables_are : tables_of bufs at ≡ tables_from first bufs (part_at d (number - 1))
  pub extents_are : extents ≡ extents_from first bufs (part_at d (number - 1))

-- ---- readers of the program

-- the part of a reader
abbrev pub part_of : Reader → Part
part_of r = part_at (declaration_of r.format.now) (r.number - 1)

-- the number of its first buffer
abbrev pub first_of : Reader → ℕ
first_of r = buffers_before (declaration_of r.format.now).parts (r.number - 1)

-- the reader is one of its part, for its shape and its buffers
abbrev pub IsReady : Reader → Type 0
IsReady r =
    IsReader (plain_shape r.shape) (declaration_of r.format.now) r.number (first_of r) r.tables.buffers.now r.plan.now r.layout (tables_in r.parents.now) r.ranges.shape_rows r.ranges.shape_cols r.ranges.vars.items r.tables.at.items r.tables.extents.items

-- the indices that are recovered at a position
abbrev pub indices_at : Reader → ℕ → Option (ℤ × ℤ)
indices_at r x =
    let extents = extents_from (first_of r) r.tables.buffers.now (part_of r) in
    let tables = tables_from (first_of r) r.tables.buffers.now (part_of r) in
    then_do (climb_by r.layout.levels.items r.tables.buffers.now x) (λ up. recovered (plain_shape r.shape) (part_of r) (record { coords = up.1; extents = extents; tables = tables }))

-- the entry whose value stands at a position of the part
abbrev pub entry_at : Reader → ℕ → Option Entry
entry_at r x = entry_in (plain_shape r.shape) (declaration_of r.format.now) r.tables.buffers.now (r.number - 1, x)

-- the value at a position
abbrev pub value_of : Reader → ℕ → ℤ
value_of r x = cell (cells_at r.layout.values r.tables.buffers.now) x
