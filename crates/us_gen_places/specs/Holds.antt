-- On the buffers of a part its places hold its levels, values and tables, and its expressions have their low ends.
use Rattle.std.specs.Prelude.{◌≡◌, ◌≢◌, ℕ, ◌+◌, ◌^◌, ◌<◌, ◌≤◌, List, [], ◌∷◌, map, length, slice_get, Some, None, IsTrue, All, ℤ}
use Rattle.us_expr.specs.Tree.{Tree, Variable, uses}
use Rattle.us_format.specs.Lists.{nth}
use Rattle.us_format.specs.Matrix.{Shape, Entry, IsMatrixOf}
use Rattle.us_format.specs.Declaration.{Query, LevelColumn, Part, Declaration, has_extent}
use Rattle.us_format.specs.Queries.{extent_of}
use Rattle.us_format.specs.Kinds.{kind}
use Rattle.us_format.specs.Packs.{CellsOf, is_packed, written}
use Rattle.us_format.specs.Buffers.{part_buffers, parts_of, buffers}
use Rattle.us_format.specs.Reading.{cells_in, buffer_count, limit}
use Rattle.us_format.specs.Rules.{IsLawful, ArePacksLawful, IsLawfulDeclaration}
use Rattle.us_format_loops.specs.Laws.{StaysLoose, number_after}
use Rattle.us_format_loops.specs.Nodes.{has_nodes}
use Rattle.us_code.specs.Run.{Env}
use Rattle.us_gen_walk.specs.declared.places.Places.{Places}
use Rattle.us_gen_walk.specs.Runs.{HasPlaces}
use Rattle.us_gen_walk.specs.Plans.{CoversPart}
use Rattle.us_gen_places.specs.declared.start.PartStart.{PartStart}
use Rattle.us_gen_places.specs.Places.{extent_name, nodes_name, more_name, counting_query, ArePlacesOf}

-- a variable of an expression whose range an extent bounds is the whole expression
abbrev pub IsWhole : List Query → Tree → Type 0
IsWhole qs e = (v : ℕ) → IsTrue (uses e v) → counting_query 0 qs v ≢ None → e ≡ Variable v

-- a lawful part with lawful packs. Every level after a loose level is loose, and a variable in a level whose range an extent bounds is the whole level
pub record IsOrderly (p : Part) : Type 0 where
  pub lawful : IsLawful p
  pub packs : ArePacksLawful p
  pub loose : StaysLoose p
  pub whole : All (IsWhole p.queries) p.levels
  pub few : length p.queries ≤ 16

-- what the buffers of a part hold for a matrix
abbrev pub held_by : Shape → Part → List Entry → List (List ℤ)
held_by s p m = map written (part_buffers s p m)

-- how many nodes the level k has in buffers
abbrev pub node_count : Part → List (List ℤ) → ℕ → ℕ
node_count p bufs k = length (cells_in p bufs (CellsOf (LevelColumn k)))

-- the sources from a start on are the buffers of a part, and the dims from there on tell its extents and its numbers of nodes
pub record HasBuffers (env : Env) (a : PartStart) (s : Shape) (p : Part) (m : List Entry) : Type 0 where
  pub sources : (k : ℕ) → k < length (part_buffers s p m) → env.sources (a.source + k) ≡ nth (held_by s p m) k
  pub short : (k : ℕ) → length (env.sources k) < 2 ^ 63
  pub extents : (q : ℕ) (x : Query) → slice_get p.queries q ≡ Some x → IsTrue (has_extent x) → env.dims (extent_name a q) ≡ extent_of m s x
  pub nodes : (k : ℕ) → k < length p.levels → IsTrue (has_nodes (kind p k)) → IsTrue (is_packed p (CellsOf (LevelColumn k))) → env.dims (nodes_name a k) ≡ node_count p (held_by s p m) k
  pub more : (k : ℕ) → k < length p.levels → IsTrue (has_nodes (kind p k)) → env.dims (more_name a k) ≡ node_count p (held_by s p m) k + 1

-- where the numbers of positions are within the limit, the places of a part are those of what it holds
abbrev pub PlacesHold : Type 0
PlacesHold =
    (env : Env) (a : PartStart) (s : Shape) (p : Part) (m : List Entry) (w : Places) → IsOrderly p → IsMatrixOf s m → HasBuffers env a s p m
    → ((k : ℕ) → number_after s p m k ≤ limit) → ArePlacesOf a s p w → HasPlaces env w s p m

-- they cover its levels and queries, with the low ends of all ranges
abbrev pub PlacesCover : Type 0
PlacesCover =
    (a : PartStart) (s : Shape) (p : Part) (m : List Entry) (w : Places) (n : ℕ) → IsOrderly p → ArePlacesOf a s p w → CoversPart w s p m n

-- ---- all parts

-- the sources from number n on are the buffers of parts, one part after the other
abbrev pub HoldParts : Env → ℕ → Shape → List (Part × List Entry) → Type 0
HoldParts env n s [] = Unit {0}
HoldParts env n s (x ∷ xs) =
    ((k : ℕ) → k < length (part_buffers s x.0 x.1) → env.sources (n + k) ≡ nth (held_by s x.0 x.1) k) × HoldParts env (n + buffer_count x.0) s xs

-- the buffers of a matrix are those of its parts
abbrev pub BuffersAreOfParts : Type 0
BuffersAreOfParts =
    (env : Env) (n : ℕ) (s : Shape) (d : Declaration) (m : List Entry) → IsLawfulDeclaration d → IsMatrixOf s m
    → ((k : ℕ) → k < length (buffers s d m) → env.sources (n + k) ≡ nth (buffers s d m) k) → HoldParts env n s (parts_of s d m)
