-- The phases that select are typed, and leave the entries of the part.
use Rattle.std.specs.Prelude.{◌≡◌, ℕ, suc, ◌+◌, ◌*◌, ◌≤◌, List, [], length, slice_get, All, Some, IsTrue}
use Rattle.std.specs.List.{filter}
use Rattle.us_code.specs.declared.pieces.Columns.{Columns}
use Rattle.us_code.specs.Runs.{World, phases}
use Rattle.us_code.specs.Typing.{Context, after_phases}
use Rattle.us_expr.specs.declared.queries.Cond.{Cond}
use Rattle.us_format.specs.Lists.{among}
use Rattle.us_format.specs.Matrix.{Entry, Shape}
use Rattle.us_format.specs.Declaration.{Query, SumOf, Enumerate, Part, Declaration, defined}
use Rattle.us_format.specs.Buffers.{parts_of}
use Rattle.us_gen.specs.Goes.{Leads}
use Rattle.us_query_loops.specs.Chosen.{goes_to}
use Rattle.us_gen_counting.specs.Entries.{HoldEntries}
use Rattle.us_gen_counting.specs.Rooms.{IsCountable, RoomFrom, SeesColumns, Fit}
use Rattle.us_gen_counting.specs.Runs.{IsGiven}
use Rattle.us_gen_counting.specs.Selected.{base, select_phases, IsSelected}

-- a query that a head may have
abbrev pub IsCount : Query → Type 0
IsCount (SumOf v e) = Unit {0}
IsCount (Enumerate v e) = Unit {0}
IsCount _ = ⊥

abbrev pub SelectTyped : Type 0
SelectTyped =
    (g : Context) (s : Shape) (cs to : Columns) (head : List Query) (conds : List Cond) (k n : ℕ)
    → RoomFrom g n → SeesColumns g cs → cs.vars.items ≡ [] → All IsCountable head
    → IsSelected to (base head n)
    → Fit g (select_phases s cs head conds k to n) n (base head n + 64) × SeesColumns (after_phases g (select_phases s cs head conds k to n)) to

-- the columns hold the entries of the k-th part
pub record HoldsPart (w : World) (s : Shape) (d : Declaration) (to : Columns) (m es : List Entry) (k : ℕ) : Type 0 where
  pub share : (p : Part) → slice_get d.parts k ≡ Some p → slice_get (parts_of s d m) k ≡ Some (p, filter (goes_to m s d k) m)
  pub entries : HoldEntries w.env w.bufs to (filter (goes_to m s d k) m) (filter (goes_to m s d k) es)

-- one part more than there are conditions, four at most, over variables that the head defines
abbrev pub Selects : Type 0
Selects =
    (w : World) (s : Shape) (d : Declaration) (cs to : Columns) (m es : List Entry) (k n : ℕ)
    → IsGiven w cs s m es n → All IsCountable d.head → All IsCount d.head
    → All (λ c. IsTrue (among c.var (defined d.head))) d.conds → length d.conds ≤ 3 → length d.parts ≡ suc (length d.conds) → IsSelected to (base d.head n)
    → Leads n (32 * ((1 + length d.head) * (length es + 1))) w (phases (select_phases s cs d.head d.conds k to n) w) (λ u. HoldsPart u s d to m es k)
