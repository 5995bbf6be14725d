-- The builder's items as the rows of the definitions.
use Rattle.std.specs.Prelude.{ℕ, List, ◌∷◌, map, drop, IsTrue, AllPairs}
use Rattle.us_format.specs.declared.Kind.{Kind}
use Rattle.us_format.specs.Lists.{lower}
use Rattle.us_format.specs.Positions.{Row, place}
use Rattle.us_build.specs.declared.items.Item.{Item}

-- an item as a row before the level whose coordinates stand at this place
abbrev pub row_at : ℕ → Item → Row
row_at level x = record { at = x.at; rest = drop level x.coordinates; value = x.value }

abbrev pub rows_at : ℕ → List Item → List Row
rows_at level xs = map (row_at level) xs

-- an item as the row that it was one level above
abbrev pub row_above : ℕ → Item → Row
row_above level x = record { at = x.above; rest = drop level x.coordinates; value = x.value }

abbrev pub rows_above : ℕ → List Item → List Row
rows_above level xs = map (row_above level) xs

-- an item above the first level
abbrev pub row_first : ℕ → Item → Row
row_first level x = record { at = 0; rest = drop level x.coordinates; value = x.value }

abbrev pub rows_first : ℕ → List Item → List Row
rows_first level xs = map (row_first level) xs

-- an item one level down, where all rows before the level are these
abbrev pub stepped : Kind → ℕ → ℕ → List Row → Item → Item
stepped kind size level rows x = record { above = x.at; at = place kind size rows (row_at level x); coordinates = x.coordinates; value = x.value }

-- an item whose position stays
abbrev pub stayed : Item → Item
stayed x = record { above = x.at; at = x.at; coordinates = x.coordinates; value = x.value }

-- what orders rows: the position, and the coordinates that are left
abbrev pub key : Row → List ℕ
key r = r.at ∷ r.rest

-- each row has a lower key than all rows behind it
abbrev pub IsAscending : List Row → Type 0
IsAscending rows = AllPairs (λ r s. IsTrue (lower (key r) (key s))) rows
