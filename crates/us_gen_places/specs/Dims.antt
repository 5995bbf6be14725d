-- What the dims of a part tell, and that they are visible.
use Rattle.std.specs.Prelude.{◌≡◌, ℕ, ◌+◌, ◌*◌, ◌<◌, List, [], ◌∷◌, length, slice_get, Some, IsTrue}
use Rattle.us_format.specs.Matrix.{Shape, Entry}
use Rattle.us_format.specs.Declaration.{Query, LevelColumn, Part, has_extent}
use Rattle.us_format.specs.Queries.{extent_of}
use Rattle.us_format.specs.Kinds.{kind}
use Rattle.us_format.specs.Packs.{CellsOf, is_packed}
use Rattle.us_format.specs.Reading.{buffer_count}
use Rattle.us_format_loops.specs.Nodes.{has_nodes}
use Rattle.us_code.specs.Run.{Env}
use Rattle.us_code.specs.Typing.{Context, Successor, is_some}
use Rattle.us_gen_places.specs.declared.start.PartStart.{PartStart}
use Rattle.us_gen_places.specs.Places.{extent_name, nodes_name, more_name, nodes_of}
use Rattle.us_gen_places.specs.Holds.{held_by, node_count}

-- the dims from a start on tell the extents of a part and its numbers of nodes
pub record HasDims (env : Env) (a : PartStart) (s : Shape) (p : Part) (m : List Entry) : Type 0 where
  pub extents : (q : ℕ) (x : Query) → slice_get p.queries q ≡ Some x → IsTrue (has_extent x) → env.dims (extent_name a q) ≡ extent_of m s x
  pub nodes : (k : ℕ) → k < length p.levels → IsTrue (has_nodes (kind p k)) → IsTrue (is_packed p (CellsOf (LevelColumn k))) → env.dims (nodes_name a k) ≡ node_count p (held_by s p m) k
  pub more : (k : ℕ) → k < length p.levels → IsTrue (has_nodes (kind p k)) → env.dims (more_name a k) ≡ node_count p (held_by s p m) k + 1

-- they are visible, and one more than the nodes of a level is defined as that
pub record SeesDims (g : Context) (a : PartStart) (p : Part) : Type 0 where
  pub extents : (q : ℕ) (x : Query) → slice_get p.queries q ≡ Some x → IsTrue (has_extent x) → IsTrue (is_some (g.dims (extent_name a q)))
  pub nodes : (k : ℕ) → k < length p.levels → IsTrue (has_nodes (kind p k)) → IsTrue (is_packed p (CellsOf (LevelColumn k))) → IsTrue (is_some (g.dims (nodes_name a k)))
  pub more : (k : ℕ) → k < length p.levels → IsTrue (has_nodes (kind p k)) → g.dims (more_name a k) ≡ Some (Successor (nodes_of a p k))

-- ---- all parts, one behind the other

-- where the next part begins: behind the buffers and the dims of this one
abbrev pub next_start : PartStart → Part → PartStart
next_start a p = record { source = a.source + buffer_count p; dim = a.dim + 16 + 2 * length p.levels }

-- the dims of all parts with their entries
abbrev pub HaveDims : Env → PartStart → Shape → List (Part × List Entry) → Type 0
HaveDims env a s [] = Unit {0}
HaveDims env a s (x ∷ xs) = HasDims env a s x.0 x.1 × HaveDims env (next_start a x.0) s xs

abbrev pub SeeDims : Context → PartStart → List Part → Type 0
SeeDims g a [] = Unit {0}
SeeDims g a (p ∷ ps) = SeesDims g a p × SeeDims g (next_start a p) ps

-- how many dims they have
abbrev pub dim_count : List Part → ℕ
dim_count [] = 0
dim_count (p ∷ ps) = 16 + 2 * length p.levels + dim_count ps
