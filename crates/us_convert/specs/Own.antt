-- The phases that count the queries of a part and build its buffers.
use Rattle.std.specs.Prelude.{◌≡◌, ℕ, ◌<◌, ◌≤◌, true, List, map, length}
use Rattle.us_format.specs.Matrix.{Shape, Entry}
use Rattle.us_format.specs.Declaration.{Part}
use Rattle.us_format.specs.Buffers.{part_buffers}
use Rattle.us_format.specs.Packs.{written}
use Rattle.us_format.specs.Reading.{limit}
use Rattle.us_code.specs.declared.pieces.Columns.{Columns}
use Rattle.us_code.specs.Plain.{PhaseTree}
use Rattle.us_code.specs.Runs.{World, phases}
use Rattle.us_code.specs.Typing.{Context, after_phases, sees_all}
use Rattle.us_gen.specs.Goes.{Leads}
use Rattle.us_limits.specs.Small.{KeepText}
use Rattle.us_gen_counting.specs.Rooms.{RoomFrom, SeesColumns, Fit}
use Rattle.us_gen_counting.specs.Runs.{IsGiven}
use Rattle.us_gen_queries.specs.Plain.{bare}
use Rattle.us_right.specs.Costs.{own_size, own_cost}
use Rattle.us_right.specs.Piece.{AreNewIn}

-- the numbers of columns are below n
pub record AreBelow (cs : Columns) (n : ℕ) : Type 0 where
  pub count : cs.count < n
  pub i : cs.i < n
  pub j : cs.j < n
  pub v : cs.v < n

-- phases with numbers from low to high, which lead from columns that hold the entries of a part to its buffers
pub record BuildsOwn (s : Shape) (p : Part) (cs : Columns) (low high : ℕ) (ps : List PhaseTree) (out : List ℕ) : Type 0 where
  pub leads :
      (w : World) (m es : List Entry) → IsGiven w (bare cs) s m es low → own_size s (p, m) ≤ limit
      → Leads low (own_cost s (p, m)) w (phases ps w) (λ u. map u.bufs out ≡ map written (part_buffers s p m))
  pub typed : (g : Context) → RoomFrom g low → SeesColumns g (bare cs) → Fit g ps low high × (sees_all (after_phases g ps) out ≡ true)
  pub new : AreNewIn out low high
  pub few : length out ≤ 1000
  pub text : KeepText 8192 ps
