-- What the phases leave in the buffers: the values of the queries.
use Rattle.std.specs.Prelude.{◌≡◌, ℕ, suc, ◌+◌, ◌*◌, ◌^◌, ◌<◌, ◌≤◌, List, [], ◌∷◌, map, length, ℤ, All, IsTrue}
use Rattle.std.specs.List.{filter}
use Rattle.us_code.specs.declared.pieces.Columns.{Columns}
use Rattle.us_code.specs.Runs.{World, phases}
use Rattle.us_format.specs.Lists.{among}
use Rattle.us_format.specs.Matrix.{Entry, Shape, IsMatrixOf, indices}
use Rattle.us_format.specs.Declaration.{Query, Schedule, axis_of, defines, has_extent, has_table}
use Rattle.us_format.specs.Queries.{variable_at}
use Rattle.us_format.specs.Packs.{written}
use Rattle.us_format.specs.Buffers.{extent_buffer, table_buffer}
use Rattle.us_format.specs.Reading.{limit}
use Rattle.us_gen.specs.Goes.{Leads}
use Rattle.us_gen_counting.specs.Answers.{Answers}
use Rattle.us_gen_counting.specs.Entries.{HoldEntries, HoldVariables}
use Rattle.us_gen_counting.specs.Phases.{variable_column, query_phases, count_phases, extents, tables}
use Rattle.us_gen_counting.specs.Rooms.{IsCountable}

-- a matrix whose sides a matrix may have, and whose entries stand in columns with numbers below n that have no variables yet
pub record IsGiven (w : World) (cs : Columns) (s : Shape) (m es : List Entry) (n : ℕ) : Type 0 where
  pub matrix : IsMatrixOf s m
  pub rows : s.rows < 2 ^ 31
  pub cols : s.cols < 2 ^ 31
  pub few : length es ≤ limit
  pub held : HoldEntries w.env w.bufs cs m es
  pub plain : cs.vars.items ≡ []
  pub count : cs.count < n
  pub i : cs.i < n
  pub j : cs.j < n
  pub v : cs.v < n

-- the column of each variable of the query has its values at the entries, and the buffers its extent and its table
pub record HoldsQuery (s : Shape) (m es : List Entry) (bufs : ℕ → List ℤ) (q : Query) (n : ℕ) : Type 0 where
  pub variables : (v : ℕ) → IsTrue (among v (defines q)) → bufs (variable_column q v n) ≡ map (variable_at m s (q ∷ []) v) es
  pub extent : IsTrue (has_extent q) → bufs (n + 3) ≡ written (extent_buffer m s q)
  pub table : IsTrue (has_table q) → bufs (n + 11) ≡ written (table_buffer m s q)

-- the cells of the query's table, and the turns over the lanes of a schedule
abbrev pub table_share : List Entry → Shape → Query → ℕ
table_share m s q = (table_buffer m s q).len

abbrev pub lane_share : Shape → Query → ℕ
lane_share s (Schedule l u e lanes) = suc lanes * indices (axis_of e) s
lane_share s _ = 0

abbrev pub QueryCounts : Type 0
QueryCounts =
    (w : World) (s : Shape) (cs : Columns) (q : Query) (m es : List Entry) (n : ℕ) → IsGiven w cs s m es n → IsCountable q → table_share m s q ≤ limit
    → Leads n (32 * (length es + 1 + (table_share m s q + lane_share s q))) w (phases (query_phases s cs q n) w) (λ u. HoldsQuery s m es u.bufs q n)

-- ---- queries, one after the other

abbrev pub tables_share : List Entry → Shape → List Query → ℕ
tables_share m s [] = 0
tables_share m s (q ∷ qs) = table_share m s q + tables_share m s qs

abbrev pub lanes_share : Shape → List Query → ℕ
lanes_share s [] = 0
lanes_share s (q ∷ qs) = lane_share s q + lanes_share s qs

-- the columns still hold the entries, those of the variables their values, and the buffers are the extents and the tables
pub record HoldsCounts (w : World) (s : Shape) (out : Columns) (m es : List Entry) (qs : List Query) (n : ℕ) : Type 0 where
  pub entries : HoldEntries w.env w.bufs out m es
  pub variables : HoldVariables w.bufs out s m es qs
  pub extents_held : map w.bufs (extents qs n) ≡ map written (map (extent_buffer m s) (filter has_extent qs))
  pub tables_held : map w.bufs (tables qs n) ≡ map written (map (table_buffer m s) (filter has_table qs))

abbrev pub Counts : Type 0
Counts =
    (w : World) (s : Shape) (cs out : Columns) (qs : List Query) (names : ℕ) (m es : List Entry) (n : ℕ) → IsGiven w cs s m es n → All IsCountable qs
    → tables_share m s qs ≤ limit → Answers cs qs names n out
    → Leads n (32 * ((1 + length qs) * (length es + 1 + (tables_share m s qs + lanes_share s qs)))) w (phases (count_phases s cs qs n) w)
    (λ u. HoldsCounts u s out m es qs n)
