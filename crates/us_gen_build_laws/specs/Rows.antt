-- Rows in the order in which a loop takes them.
use Rattle.std.specs.Prelude.{◌≢◌, ℕ, zero, suc, ◌<◌, ◌≤◌, Bool, true, not, ◌&&◌, List, [], ◌∷◌, length, slice_index_or, IsFalse, AllPairs, pos}
use Rattle.us_format.specs.declared.Kind.TheVariants.{Compressed}
use Rattle.us_format.specs.Kinds.{Level}
use Rattle.us_format.specs.Lists.{head, tail, lower}
use Rattle.us_format.specs.Positions.{Row, node_of}
use Rattle.us_build.specs.Items.{key}
use Rattle.us_format_loops.specs.Nodes.{is_group, has_nodes}

-- what is read where there is no row
abbrev pub no_row : Row
no_row = record { at = 0; rest = []; value = pos 0 }

abbrev pub row : List Row → ℕ → Row
row rows x = slice_index_or rows x no_row

-- position and coordinate of a row
abbrev pub node : Row → List ℕ
node = node_of Compressed

-- no row has a lower node than one before it
abbrev pub NodesRise : List Row → Type 0
NodesRise rows = (i j : ℕ) → j ≤ i → i < length rows → IsFalse (lower (node (row rows i)) (node (row rows j)))

-- no two neighbours have one node
abbrev pub NodesDiffer : List Row → Type 0
NodesDiffer rows = (x : ℕ) → suc x < length rows → node (row rows x) ≢ node (row rows (suc x))

-- no two rows have the same position and the same coordinates left
abbrev pub KeysDiffer : List Row → Type 0
KeysDiffer rows = AllPairs (λ r s. key r ≢ key s) rows

-- the first k coordinates
abbrev pub firsts : ℕ → List ℕ → List ℕ
firsts zero cs = []
firsts (suc k) cs = head cs ∷ firsts k (tail cs)

-- the position, and the first k coordinates that are left
abbrev pub front : ℕ → Row → List ℕ
front k r = r.at ∷ firsts k r.rest

-- no row has a lower front than one before it
abbrev pub FrontsRise : ℕ → List Row → Type 0
FrontsRise k rows = (i j : ℕ) → i ≤ j → j < length rows → IsFalse (lower (front k (row rows j)) (front k (row rows i)))

-- whether no level is compressed or listed
abbrev pub have_no_nodes : List Level → Bool
have_no_nodes [] = true
have_no_nodes (l ∷ ls) = not (has_nodes l.kind) && have_no_nodes ls

-- whether the first k levels are full or compressed and those behind them neither compressed nor listed
abbrev pub nodes_within : ℕ → List Level → Bool
nodes_within zero ls = have_no_nodes ls
nodes_within (suc k) [] = true
nodes_within (suc k) (l ∷ ls) = is_group l.kind && nodes_within k ls
