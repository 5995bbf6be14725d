-- The laws.
use Rattle.std.specs.Prelude.{◌≡◌, ℕ, suc, ◌+◌, ◌*◌, ◌<◌, List, map, length, nat_lt, ℤ}
use Rattle.std.specs.List.{count_by}
use Rattle.std.specs.List.Sorted.{IsPermutation}
use Rattle.us_format.specs.declared.Kind.TheVariants.{Compressed}
use Rattle.us_format.specs.Kinds.{Level}
use Rattle.us_format.specs.Lists.{head, rank}
use Rattle.us_format.specs.Matrix.{Shape, Entry, IsMatrixOf}
use Rattle.us_format.specs.Declaration.{Part}
use Rattle.us_format.specs.Positions.{Row, nodes, rows_of}
use Rattle.us_format.specs.Packs as packs
use Rattle.us_format.specs.Buffers.{level_buffers, piece_buffers}
use Rattle.us_format.specs.Rules.{IsLawful}
use Rattle.us_format_loops.specs.Laws.{levels_on}
use Rattle.us_running.specs.Running.{is_new, seen, below, marked, top}
use Rattle.us_gen_build_laws.specs.Rows.{row, node, NodesRise}
use Rattle.us_gen_build_laws.specs.Ready.{AreReady, AreSorted}
use Rattle.us_gen_build_laws.specs.Numbering.{Taken, AreAt, AreTaken, HavePositions}
use Rattle.us_gen_build_laws.specs.Built.{Lists, AreBuilt, all_lists}

-- ---- one level

-- the running numbers of a compressed level, by the keys and the positions above
pub record NumberNodes (rows : List Row) (keys at : ℕ → ℕ) : Type 0 where
  -- after an entry it is one more than the rank of the entry's node
  pub number : (x : ℕ) → x < length rows → seen keys (suc x) ≡ rank (nodes Compressed rows) (node (row rows x)) + 1
  -- after all entries it is the number of nodes
  pub all : seen keys (length rows) ≡ length (nodes Compressed rows)
  -- how many nodes have a parent below p
  pub lower : (p : ℕ) → below (is_new keys) at (length rows) p ≡ count_by (λ m. nat_lt (head m) p) (nodes Compressed rows)
  -- which is the greatest mark up to cell p
  pub filled : (p : ℕ) → top (marked (is_new keys) at (length rows)) (suc p) ≡ count_by (λ m. nat_lt (head m) p) (nodes Compressed rows)

-- where no node is lower than one before it, running numbers are those of the nodes
abbrev pub RunningNumbersAreRanks : Type 0
RunningNumbersAreRanks =
    (rows : List Row) (size : ℕ) (at coordinate : ℕ → ℕ) → NodesRise rows → AreAt rows at
    → ((x : ℕ) → x < length rows → coordinate x ≡ head (row rows x).rest) → ((x : ℕ) → x < length rows → coordinate x < size)
    → NumberNodes rows (λ x. at x * size + coordinate x) at

-- ---- all levels

-- the numberings give each entry its position at each level
abbrev pub PositionsAreNumbered : Type 0
PositionsAreNumbered =
    (ts : List Taken) (ls : List Level) (n : ℕ) (rows : List Row) (at : ℕ → ℕ)
    → AreReady ls n rows → AreTaken ts ls rows → AreAt rows at → HavePositions ts ls n rows at

-- what the loop leaves are the buffers of the levels and of the values
abbrev pub BuffersAreBuilt : Type 0
BuffersAreBuilt =
    (ts : List Taken) (ls : List Level) (cs : List Lists) (values : List ℤ) (n : ℕ) (rows : List Row) (at : ℕ → ℕ)
    → AreReady ls n rows → AreTaken ts ls rows → AreAt rows at → AreBuilt ts ls cs values n rows at
    → all_lists ls cs values ≡ map packs.written (level_buffers ls n rows)

-- ---- a part

-- the rows of a lawful part are ready in each order in which they are sorted
abbrev pub SortedRowsAreReady : Type 0
SortedRowsAreReady =
    (s : Shape) (p : Part) (m : List Entry) (rows : List Row) → IsLawful p → IsMatrixOf s m → IsPermutation (rows_of m s p) rows
    → AreSorted (levels_on s p m) rows → AreReady (levels_on s p m) 1 rows

-- so what the loop leaves, whichever of these orders it takes, are the part's buffers before packing
abbrev pub PiecesAreBuilt : Type 0
PiecesAreBuilt =
    (s : Shape) (p : Part) (m : List Entry) (rows : List Row) → IsLawful p → IsMatrixOf s m → IsPermutation (rows_of m s p) rows
    → AreSorted (levels_on s p m) rows → (ts : List Taken) (cs : List Lists) (values : List ℤ)
    → AreTaken ts (levels_on s p m) rows → AreBuilt ts (levels_on s p m) cs values 1 rows (λ x. 0)
    → all_lists (levels_on s p m) cs values ≡ map packs.written (piece_buffers s p m)
