-- What the pieces of the generators do.
use Rattle.std.specs.Prelude.{◌≡◌, ◌⊎◌, ℕ, ◌+◌, ◌*◌, ◌<◌, ◌≤◌, List, [], length}
use Rattle.us_code.specs.declared.pieces.Columns.{Columns}
use Rattle.us_code.specs.Plain.{PhaseTree}
use Rattle.us_code.specs.Runs.{World, phases}
use Rattle.us_code.specs.Typing.{Context, after_phases}
use Rattle.us_format.specs.Matrix.{Entry, Shape}
use Rattle.us_format.specs.Declaration.{Query, Declaration}
use Rattle.us_format.specs.Reading.{limit}
use Rattle.us_gen.specs.Goes.{Leads}
use Rattle.us_limits.specs.Orders.{HaveNoOrder}
use Rattle.us_limits.specs.Small.{KeepText}
use Rattle.us_gen_counting.specs.Answers.{AreNew}
use Rattle.us_gen_counting.specs.Phases.{buffers}
use Rattle.us_gen_counting.specs.Rooms.{RoomFrom, SeesColumns, Fit, SeesAnswer}
use Rattle.us_gen_counting.specs.Runs.{IsGiven, tables_share, lanes_share, HoldsCounts}
use Rattle.us_gen_counting.specs.Selects.{HoldsPart}
use Rattle.us_gen_queries.specs.Plain.{bare}

-- from columns that hold a part's entries, the phases lead to those of its variables, its extents and its tables; they are typed wherever there
-- is room, keep the limits of a text, have no `order` where there is no query, and the buffers are new ones, none twice
pub record CountsPart (s : Shape) (qs : List Query) (cs : Columns) (n : ℕ) (ps : List PhaseTree) (out : Columns) (bs : List ℕ) : Type 0 where
  pub leads :
      (w : World) (m es : List Entry) → IsGiven w (bare cs) s m es n → tables_share m s qs ≤ limit
      → Leads n (32 * ((1 + length qs) * (length es + 1 + (tables_share m s qs + lanes_share s qs)))) w (phases ps w) (λ u. HoldsCounts u s out m es qs n)
  pub typed : (g : Context) → RoomFrom g n → SeesColumns g (bare cs) → Fit g ps n (n + 64 * length qs) × SeesAnswer (after_phases g ps) out qs n
  pub text : KeepText 4096 ps
  pub unsorted : qs ≡ [] → HaveNoOrder ps
  pub are : bs ≡ buffers qs n
  pub new : AreNew qs n

-- a number is the one given, or a new one from low on and below high
abbrev pub IsGivenOrNew : ℕ → ℕ → ℕ → ℕ → Type 0
IsGivenOrNew given low high x = (x ≡ given) ⊎ ((low ≤ x) × (x < high))

-- the columns of entries are those given, or new ones, and there are none of variables
pub record AreGivenOrNew (cs : Columns) (low high : ℕ) (to : Columns) : Type 0 where
  pub count : IsGivenOrNew cs.count low high to.count
  pub i : IsGivenOrNew cs.i low high to.i
  pub j : IsGivenOrNew cs.j low high to.j
  pub v : IsGivenOrNew cs.v low high to.v
  pub vars : to.vars.items ≡ []

-- how many numbers the phases of a selection take
abbrev pub selection_room : Declaration → ℕ
selection_room d = 64 * length d.head + 64

-- from columns that hold all entries, the phases lead to those of the k-th part, counted from 0; they are typed wherever there is
-- room, keep the limits of a text, and have no `order` where there is one part
pub record SelectsPart (s : Shape) (d : Declaration) (k : ℕ) (cs : Columns) (n : ℕ) (ps : List PhaseTree) (to : Columns) : Type 0 where
  pub leads :
      (w : World) (m es : List Entry) → IsGiven w (bare cs) s m es n
      → Leads n (32 * ((1 + length d.head) * (length es + 1))) w (phases ps w) (λ u. HoldsPart u s d to m es k)
  pub typed : (g : Context) → RoomFrom g n → SeesColumns g (bare cs) → Fit g ps n (n + selection_room d) × SeesColumns (after_phases g ps) to
  pub text : KeepText 4096 ps
  pub unsorted : length d.parts ≡ 1 → HaveNoOrder ps
  pub columns : AreGivenOrNew cs n (n + selection_room d) to
