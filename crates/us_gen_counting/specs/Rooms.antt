-- The phases are typed in every context with room.
use Rattle.std.specs.Prelude.{◌≡◌, ℕ, ◌+◌, ◌*◌, ◌<◌, ◌≤◌, true, List, [], ◌∷◌, length, get_or, All, Option, Some, None, IsTrue}
use Rattle.us_code.specs.declared.pieces.Columns.{Columns}
use Rattle.us_code.specs.Plain.{PhaseTree}
use Rattle.us_code.specs.Typing.{Context, BufKind, is_some, TypedPhases, after_phases}
use Rattle.us_expr.specs.Tree.{node_count}
use Rattle.us_expr.specs.Value.{IsWithin}
use Rattle.us_format.specs.Matrix.{Shape}
use Rattle.us_format.specs.Declaration.{Query, SumOf, Enumerate, Reorder, Schedule, argument}
use Rattle.us_format.specs.Rules.{has_lawful_argument, HasLanes}
use Rattle.us_gen_query.specs.Filling.{words}
use Rattle.us_gen_query.specs.Counting.{one_word}
use Rattle.us_gen_counting.specs.Answers.{Answers}
use Rattle.us_gen_counting.specs.Phases.{query_phases, count_phases, extents, tables}

-- a schedule has 64 lanes at most
abbrev pub IsNarrow : Query → Type 0
IsNarrow (Schedule l u e lanes) = lanes ≤ 64
IsNarrow _ = Unit {0}

-- a query that a part may have
pub record IsCountable (q : Query) : Type 0 where
  pub within : IsWithin 32 (argument q)
  pub small : node_count (argument q) ≤ 32
  pub lawful : IsTrue (has_lawful_argument q)
  pub lanes : HasLanes q
  pub narrow : IsNarrow q

-- as in front of a phase no register is visible, and no buffer or dim has a number from n on
pub record RoomFrom (g : Context) (n : ℕ) : Type 0 where
  pub regs : (r : ℕ) → g.regs r ≡ None
  pub bufs : (b : ℕ) → n ≤ b → g.bufs b ≡ None
  pub dims : (d : ℕ) → n ≤ d → g.dims d ≡ None

-- the columns of the entries, and their dim
pub record SeesColumns (g : Context) (cs : Columns) : Type 0 where
  pub count : is_some (g.dims cs.count) ≡ true
  pub i : g.bufs cs.i ≡ Some (words cs)
  pub j : g.bufs cs.j ≡ Some (words cs)
  pub v : g.bufs cs.v ≡ Some (words cs)

-- the column of a query's variable, or of its two, its extent and its table
abbrev pub SeesQuery : (ℕ → Option BufKind) → Columns → Query → ℕ → Type 0
SeesQuery bufs cs (SumOf v e) n = bufs (n + 2) ≡ Some (words cs)
SeesQuery bufs cs (Enumerate v e) n = (bufs (n + 2) ≡ Some (words cs)) × (bufs (n + 3) ≡ Some one_word)
SeesQuery bufs cs (Reorder v e) n = (bufs (n + 2) ≡ Some (words cs)) × (is_some (bufs (n + 11)) ≡ true)
SeesQuery bufs cs (Schedule l u e lanes) n =
    (bufs (n + 2) ≡ Some (words cs)) × (bufs (n + 5) ≡ Some (words cs)) × (bufs (n + 3) ≡ Some one_word) × (is_some (bufs (n + 11)) ≡ true)

abbrev pub SeesQueries : (ℕ → Option BufKind) → Columns → List Query → ℕ → Type 0
SeesQueries bufs cs [] n = Unit {0}
SeesQueries bufs cs (q ∷ qs) n = SeesQuery bufs cs q n × SeesQueries bufs cs qs (n + 64)

-- from g to h there is more, with numbers from low to high; what was visible below low still is
pub record SeesMore (g h : Context) (low high : ℕ) : Type 0 where
  pub room : RoomFrom h high
  pub sources : h.sources ≡ g.sources
  pub bufs : (b : ℕ) → b < low → h.bufs b ≡ g.bufs b
  pub dims : (d : ℕ) → d < low → h.dims d ≡ g.dims d

-- phases with numbers from low to high
pub record Fit (g : Context) (ps : List PhaseTree) (low high : ℕ) : Type 0 where
  pub typed : TypedPhases g ps
  pub more : SeesMore g (after_phases g ps) low high

abbrev pub QueryTyped : Type 0
QueryTyped =
    (g : Context) (s : Shape) (cs : Columns) (q : Query) (n : ℕ) → RoomFrom g n → SeesColumns g cs → cs.vars.items ≡ [] → IsCountable q
    → Fit g (query_phases s cs q n) n (n + 64) × SeesQuery (after_phases g (query_phases s cs q n)).bufs cs q n

-- the answered columns and extents have their kinds, and the tables are there
pub record SeesAnswer (h : Context) (out : Columns) (qs : List Query) (n : ℕ) : Type 0 where
  pub columns : SeesColumns h out
  pub variables : (v : ℕ) → v < length out.vars.items → h.bufs (get_or out.vars.items v 0) ≡ Some (words out)
  pub extents_seen : All (λ b. h.bufs b ≡ Some one_word) (extents qs n)
  pub tables_seen : All (λ b. is_some (h.bufs b) ≡ true) (tables qs n)

abbrev pub CountsTyped : Type 0
CountsTyped =
    (g : Context) (s : Shape) (cs out : Columns) (qs : List Query) (names n : ℕ) → RoomFrom g n → SeesColumns g cs → cs.vars.items ≡ [] → All IsCountable qs
    → Answers cs qs names n out → Fit g (count_phases s cs qs n) n (n + 64 * length qs) × SeesAnswer (after_phases g (count_phases s cs qs n)) out qs n
