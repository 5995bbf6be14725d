-- The phases that build a part of the target.
use Rattle.std.specs.Prelude.{◌≡◌, Bool, false, ℕ, ◌<◌, ◌≤◌, true, List, map, length}
use Rattle.std.specs.List.{filter}
use Rattle.us_format.specs.Matrix.{Shape, Entry}
use Rattle.us_format.specs.Declaration.{Part, Declaration}
use Rattle.us_format.specs.Buffers.{part_buffers, size}
use Rattle.us_format.specs.Packs.{written}
use Rattle.us_format.specs.Positions.{row_of}
use Rattle.us_build.specs.Items.{IsAscending}
use Rattle.us_format.specs.Reading.{limit}
use Rattle.us_judge.specs.Format.{part_at}
use Rattle.us_code.specs.declared.pieces.Columns.{Columns}
use Rattle.us_code.specs.Plain.{PhaseTree}
use Rattle.us_code.specs.Runs.{World, phases}
use Rattle.us_code.specs.Typing.{Context, after_phases, sees_all, is_listed, are_distinct}
use Rattle.us_gen.specs.Goes.{Leads}
use Rattle.us_query_loops.specs.Chosen.{goes_to}
use Rattle.us_gen_counting.specs.Rooms.{RoomFrom, SeesColumns, Fit}
use Rattle.us_gen_counting.specs.Runs.{IsGiven}
use Rattle.us_gen_queries.specs.Plain.{bare}
use Rattle.us_limits.specs.Orders.{HaveNoOrder}
use Rattle.us_limits.specs.Small.{KeepText}
use Rattle.us_right.specs.Costs.{part_cost}

-- the k-th part, counted from 0, with its entries
abbrev pub share_at : Shape → Declaration → List Entry → ℕ → Part × List Entry
share_at s d m k = (part_at d k, filter (goes_to m s d k) m)

-- buffers with numbers from low to high, none twice
pub record AreNewIn (bs : List ℕ) (low high : ℕ) : Type 0 where
  pub once : are_distinct bs ≡ true
  pub own : (b : ℕ) → is_listed b bs ≡ true → (low ≤ b) × (b < high)

-- entries stand in any order, where phases put them in order; else in ascending order of their lists of coordinates
abbrev pub MayStand : Bool → Shape → Part → List Entry → List Entry → Type 0
MayStand true s p m es = Unit {0}
MayStand false s p m es = IsAscending (map (row_of m s p) es)

-- from columns that hold all entries, the phases lead to the buffers of the k-th part, counted from 0
abbrev pub BuildsFrom : Bool → Shape → Declaration → ℕ → Columns → ℕ → List PhaseTree → List ℕ → Type 0
BuildsFrom sorts s d k cs n ps out =
    (w : World) (m es : List Entry) → IsGiven w (bare cs) s m es n → MayStand sorts s (part_at d k) m es → size s d m ≤ limit
    → Leads n (part_cost s d m (share_at s d m k)) w (phases ps w)
    (λ u. map u.bufs out ≡ map written (part_buffers s (share_at s d m k).0 (share_at s d m k).1))

-- phases with numbers from low to high, which build the k-th part; they are typed wherever there is room and the columns are visible
pub record MakesPart (sorts : Bool) (s : Shape) (d : Declaration) (k : ℕ) (cs : Columns) (low high : ℕ) (ps : List PhaseTree) (out : List ℕ)
    : Type 0 where
  pub leads : BuildsFrom sorts s d k cs low ps out
  pub typed : (g : Context) → RoomFrom g low → SeesColumns g (bare cs) → Fit g ps low high × (sees_all (after_phases g ps) out ≡ true)
  pub new : AreNewIn out low high
  pub few : length out ≤ 1000
  pub text : KeepText 12288 ps
  pub unsorted : sorts ≡ false → HaveNoOrder ps
