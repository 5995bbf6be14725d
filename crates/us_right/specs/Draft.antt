-- A program in the making.
use Rattle.std.specs.Prelude.{◌≡◌, Bool, false, ℕ, ◌+◌, ◌*◌, ◌≤◌, true, List, [], ◌∷◌, map, length, take}
use Rattle.us_format.specs.Matrix.{Shape, Entry, IsMatrixOf}
use Rattle.us_format.specs.Declaration.{Part, Declaration}
use Rattle.us_format.specs.Buffers.{parts_of, all_buffers, buffers, size}
use Rattle.us_format.specs.Packs.{written}
use Rattle.us_format.specs.Positions.{row_of}
use Rattle.us_build.specs.Items.{IsAscending}
use Rattle.us_format.specs.Reading.{limit, total_count}
use Rattle.us_code.specs.declared.pieces.Columns.{Columns}
use Rattle.us_code.specs.Plain.{PhaseTree}
use Rattle.us_code.specs.Runs.{World, phases, start}
use Rattle.us_code.specs.Typing.{before, after_phases, sees_all}
use Rattle.us_gen.specs.Goes.{Leads}
use Rattle.us_gen_counting.specs.Rooms.{SeesColumns, Fit}
use Rattle.us_gen_counting.specs.Runs.{IsGiven}
use Rattle.us_gen_queries.specs.Plain.{bare}
use Rattle.us_limits.specs.Orders.{HaveNoOrder}
use Rattle.us_limits.specs.Small.{KeepText}
use Rattle.us_right.specs.Costs.{listing_cost, parts_cost}
use Rattle.us_right.specs.Piece.{AreNewIn}

-- the columns hold the entries of the matrix in some order, ascending where f has one part, and the given buffers are those of the first k parts of g
pub record StandsAt (w : World) (s : Shape) (f g : Declaration) (m : List Entry) (cs : Columns) (k n : ℕ) (give : List ℕ) : Type 0 where
  pub listed : List Entry
  pub columns : IsGiven w (bare cs) s m listed n
  pub ascends : (p : Part) → f.parts ≡ p ∷ [] → IsAscending (map (row_of m s p) listed)
  pub built : map w.bufs give ≡ map written (all_buffers s (take k (parts_of s g m)))

-- on the buffers of f for every matrix within the limit the phases come to their end
abbrev pub LeadsTo : Shape → Declaration → Declaration → Columns → ℕ → ℕ → List PhaseTree → List ℕ → Type 0
LeadsTo s f g cs k n ps give =
    (m : List Entry) → IsMatrixOf s m → size s f m ≤ limit → size s g m ≤ limit
    → Leads 0 (listing_cost s f m + parts_cost s g m k) (start (buffers s f m)) (phases ps (start (buffers s f m)))
    (λ w. StandsAt w s f g m cs k n give)

-- phases with numbers below n that list the entries of f in columns and build the first k parts of g
pub record IsMadeTo (sorts : Bool) (s : Shape) (f g : Declaration) (cs : Columns) (k n : ℕ) (ps : List PhaseTree) (give : List ℕ) : Type 0 where
  pub leads : LeadsTo s f g cs k n ps give
  pub fit : Fit (before (total_count f)) ps 0 n
  pub columns : SeesColumns (after_phases (before (total_count f)) ps) (bare cs)
  pub seen : sees_all (after_phases (before (total_count f)) ps) give ≡ true
  pub new : AreNewIn give 0 n
  pub few : length give ≤ 1000 * k
  pub text : KeepText (16384 + 12288 * k) ps
  pub unsorted : sorts ≡ false → HaveNoOrder ps
