-- The position of each entry at each level.
use Rattle.std.specs.Prelude.{ℕ, ◌+◌, ◌*◌, ℤ, List, [], ◌∷◌, map, length}
use Rattle.us_format.specs.declared.Kind.{Kind}
use Rattle.us_format.specs.declared.Kind.TheVariants.{Full, Compressed, Listed, Slot}
use Rattle.us_format.specs.Lists.{head, tail, different, rank}
use Rattle.us_format.specs.Matrix.{Entry, Shape}
use Rattle.us_format.specs.Declaration.{Part}
use Rattle.us_format.specs.Coordinates.{coordinates}
use Rattle.us_format.specs.Kinds.{Level}

-- an entry on its way down: its position, the coordinates that are left, its value
pub record Row : Type 0 where
  pub at : ℕ
  pub rest : List ℕ
  pub value : ℤ

-- an entry above the first level
abbrev pub row_of : List Entry → Shape → Part → Entry → Row
row_of m s p x = record { at = 0; rest = coordinates m s p x; value = x.v }

-- all entries above the first level
abbrev pub rows_of : List Entry → Shape → Part → List Row
rows_of m s p = map (row_of m s p) m

-- what tells the nodes of a level apart: position and coordinate; of a listed level also all coordinates that follow
abbrev pub node_of : Kind → Row → List ℕ
node_of Full r = r.at ∷ head r.rest ∷ []
node_of Compressed r = r.at ∷ head r.rest ∷ []
node_of Listed r = r.at ∷ r.rest
node_of Slot r = r.at ∷ []

-- the nodes of a level: the different ones; of a listed level one for each entry
abbrev pub nodes : Kind → List Row → List (List ℕ)
nodes Full rows = different (map (node_of Full) rows)
nodes Compressed rows = different (map (node_of Compressed) rows)
nodes Listed rows = map (node_of Listed) rows
nodes Slot rows = different (map (node_of Slot) rows)

-- the position of an entry one level down: of a compressed or listed level how many nodes are lower
abbrev pub place : Kind → ℕ → List Row → Row → ℕ
place Full size rows r = r.at * size + head r.rest
place Compressed size rows r = rank (nodes Compressed rows) (node_of Compressed r)
place Listed size rows r = rank (nodes Listed rows) (node_of Listed r)
place Slot size rows r = r.at

-- how many positions there are one level down, where there are n
abbrev pub count_below : Kind → ℕ → ℕ → List Row → ℕ
count_below Full size n rows = n * size
count_below Compressed size n rows = length (nodes Compressed rows)
count_below Listed size n rows = length (nodes Listed rows)
count_below Slot size n rows = n

-- an entry one level down
abbrev pub moved : Kind → ℕ → List Row → Row → Row
moved kind size rows r = record { at = place kind size rows r; rest = tail r.rest; value = r.value }

-- all entries one level down
abbrev pub down : Kind → ℕ → List Row → List Row
down kind size rows = map (moved kind size rows) rows

-- how many positions there are after each level
abbrev pub counts : List Level → ℕ → List Row → List ℕ
counts [] n rows = []
counts (l ∷ ls) n rows = count_below l.kind l.size n rows ∷ counts ls (count_below l.kind l.size n rows) (down l.kind l.size rows)

-- the position of an entry after all levels
abbrev pub last_place : List Level → List Row → Row → ℕ
last_place [] rows r = r.at
last_place (l ∷ ls) rows r = last_place ls (down l.kind l.size rows) (moved l.kind l.size rows r)
