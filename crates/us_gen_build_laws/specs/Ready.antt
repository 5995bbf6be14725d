-- Rows in an order in which a loop can take them.
use Rattle.std.specs.Prelude.{◌≡◌, ◌⊎◌, ℕ, ◌<◌, List, [], ◌∷◌, IsTrue, Contains}
use Rattle.us_format.specs.declared.Kind.TheVariants.{Compressed, Listed, Slot}
use Rattle.us_format.specs.Kinds.{Level}
use Rattle.us_format.specs.Lists.{head}
use Rattle.us_format.specs.Positions.{Row, count_below, down}
use Rattle.us_build.specs.Items.{IsAscending}
use Rattle.us_format_loops.specs.Nodes.{are_slots}
use Rattle.us_gen_build_laws.specs.Rows.{NodesRise, NodesDiffer, FrontsRise, nodes_within}

-- rows before a level, with these levels behind it, where there are n positions above
pub record IsReady (l : Level) (behind : List Level) (n : ℕ) (rows : List Row) : Type 0 where
  pub below : (r : Row) → Contains rows r → r.at < n
  pub small : (r : Row) → Contains rows r → head r.rest < l.size
  -- at a slot level the position tells the coordinates
  pub tells : l.kind ≡ Slot → (r s : Row) → Contains rows r → Contains rows s → r.at ≡ s.at → r.rest ≡ s.rest
  pub rises : l.kind ≡ Compressed → NodesRise rows
  pub ascends : l.kind ≡ Listed → IsAscending rows
  -- where only slot levels follow, each row has a node of its own
  pub apart : l.kind ≡ Compressed → IsTrue (are_slots behind) → NodesDiffer rows

-- rows below all levels, where there are n positions
pub record IsAtEnd (n : ℕ) (rows : List Row) : Type 0 where
  pub below : (r : Row) → Contains rows r → r.at < n
  pub alike : (r s : Row) → Contains rows r → Contains rows s → r.at ≡ s.at → r.value ≡ s.value

-- rows that are ready at each level on their way down
abbrev pub AreReady : List Level → ℕ → List Row → Type 0
AreReady [] n rows = IsAtEnd n rows
AreReady (l ∷ ls) n rows = IsReady l ls n rows × AreReady ls (count_below l.kind l.size n rows) (down l.kind l.size rows)

-- rows sorted by all their coordinates, or by those of the first levels, where no level behind them is compressed or listed
abbrev pub AreSorted : List Level → List Row → Type 0
AreSorted ls rows = IsAscending rows ⊎ ((k : ℕ) × IsTrue (nodes_within k ls) × FrontsRise k rows)
