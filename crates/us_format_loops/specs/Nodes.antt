-- The last level that isn't a slot level, and the levels before it.
use Rattle.std.specs.Prelude.{ℕ, suc, List, [], ◌∷◌, Bool, true, false, ◌&&◌, if◌then◌else◌}
use Rattle.us_format.specs.declared.Kind.{Kind}
use Rattle.us_format.specs.declared.Kind.TheVariants.{Full, Compressed, Listed, Slot}
use Rattle.us_format.specs.Kinds.{Level}
use Rattle.us_format.specs.Positions.{Row, count_below, down}

abbrev pub is_slot : Kind → Bool
is_slot Full = false
is_slot Compressed = false
is_slot Listed = false
is_slot Slot = true

-- whether the positions of a level are its nodes
abbrev pub has_nodes : Kind → Bool
has_nodes Full = false
has_nodes Compressed = true
has_nodes Listed = true
has_nodes Slot = false

-- whether entries with one position above and one coordinate share a position, and others don't
abbrev pub is_group : Kind → Bool
is_group Full = true
is_group Compressed = true
is_group Listed = false
is_group Slot = false

-- whether all levels are slot levels
abbrev pub are_slots : List Level → Bool
are_slots [] = true
are_slots (l ∷ ls) = is_slot l.kind && are_slots ls

-- whether all levels are full or compressed
abbrev pub are_groups : List Level → Bool
are_groups [] = true
are_groups (l ∷ ls) = is_group l.kind && are_groups ls

-- how many levels there are up to the last one that isn't a slot level
abbrev pub node_levels : List Level → ℕ
node_levels [] = 0
node_levels (l ∷ ls) = if are_slots (l ∷ ls) then 0 else suc (node_levels ls)

-- whether the last level that isn't a slot level is compressed or listed
abbrev pub is_tight : List Level → Bool
is_tight [] = false
is_tight (l ∷ ls) = if are_slots ls then has_nodes l.kind else is_tight ls

-- how many positions there are after all levels, where n are above them
abbrev pub count_after : List Level → ℕ → List Row → ℕ
count_after [] n rows = n
count_after (l ∷ ls) n rows = count_after ls (count_below l.kind l.size n rows) (down l.kind l.size rows)
