-- The loops over the positions of a part, around a block that is done for each entry.
use Rattle.std.specs.Prelude.{ℕ, ◌+◌, ◌*◌, Bool, true, false, List, [], ◌∷◌, ◌++◌, length}
use Rattle.us_code.specs.Plain.{TermTree, Number, Reg, Code, End, If}
use Rattle.us_gen.specs.declared.nests.Level.{Level}
use Rattle.us_gen.specs.declared.nests.Level.TheVariants.{Full, Nodes, Crd, Cell, Packed}
use Rattle.us_gen.specs.Levels.{coordinate, level, nest, end_of, position_in}
use Rattle.us_gen_recover.specs.declared.places.Coordinate.{Coordinate}
use Rattle.us_gen_recover.specs.Recovery.{names_in, term_at, recovery}
use Rattle.us_invert.specs.declared.steps.PlanStep.{PlanStep}
use Rattle.us_gen_walk.specs.declared.places.Column.{Column}
use Rattle.us_gen_walk.specs.declared.places.Column.TheVariants as column
use Rattle.us_gen_walk.specs.declared.places.Loop.{Loop}
use Rattle.us_gen_walk.specs.declared.places.Loop.TheVariants as over
use Rattle.us_gen_walk.specs.declared.places.Slot.{Slot}
use Rattle.us_gen_walk.specs.declared.places.Places.{Places}

-- the read of a column at a position under a test, and at a node, which is in range of a source of the column's own
abbrev pub tested : Column → Level
tested (column.Own k) = Cell k
tested (column.Packed k w digit) = Packed k w digit

abbrev pub at_node : Column → Level
at_node (column.Own k) = Crd k
at_node (column.Packed k w digit) = Packed k w digit

-- ---- levels in front of the slot levels

abbrev pub is_nodes : Loop → Bool
is_nodes (over.Full size low) = false
is_nodes (over.Nodes k more nodes crd low) = true

-- a level's loop and reads
abbrev pub levels_of : Loop → List Level
levels_of (over.Full size low) = Full size ∷ []
levels_of (over.Nodes k more nodes crd low) = Nodes k more nodes ∷ at_node crd ∷ []

abbrev pub loop_levels : List Loop → List Level
loop_levels [] = []
loop_levels (l ∷ ls) = levels_of l ++ loop_levels ls

-- where its coordinate is, with registers from n on
abbrev pub loop_coordinate : Loop → ℕ → Coordinate
loop_coordinate (over.Full size low) n = record { reg = n; low = low }
loop_coordinate (over.Nodes k more nodes crd low) n = record { reg = coordinate (at_node crd) (n + 7); low = low }

abbrev pub loop_coordinates : List Loop → ℕ → List Coordinate
loop_coordinates [] n = []
loop_coordinates (l ∷ ls) n = loop_coordinate l n ∷ loop_coordinates ls (end_of (levels_of l) n)

-- whether the last of the levels has nodes; where there is none, whether the one before has
abbrev pub ends_in_nodes : Bool → List Loop → Bool
ends_in_nodes before [] = before
ends_in_nodes before (l ∷ ls) = ends_in_nodes (is_nodes l) ls

-- ---- slot levels

abbrev pub slot_levels : List Slot → List Level
slot_levels [] = []
slot_levels (x ∷ xs) = tested x.crd ∷ slot_levels xs

abbrev pub slot_coordinates : List Slot → ℕ → List Coordinate
slot_coordinates [] n = []
slot_coordinates (x ∷ xs) n = record { reg = n + 1; low = x.low } ∷ slot_coordinates xs (n + 2)

-- ---- a part, with registers from n on

-- the first register of the value, and the first behind those of the slot levels
abbrev pub leaf_at : Places → ℕ → ℕ
leaf_at w n = end_of (loop_levels w.loops.items) n

abbrev pub steps_at : Places → ℕ → ℕ
steps_at w n = leaf_at w n + 2 + 2 * length w.slots.items

-- the coordinates of all levels
abbrev pub coordinates : Places → ℕ → List Coordinate
coordinates w n = loop_coordinates w.loops.items n ++ slot_coordinates w.slots.items (leaf_at w n + 2)

-- each position is that of an entry, if the last level in front of the slot levels has nodes
abbrev pub is_tight : Places → Bool
is_tight w = ends_in_nodes false w.loops.items

-- a block only where the value in register r isn't 0
abbrev pub unless_zero : Bool → ℕ → Code → Code
unless_zero true r inner = inner
unless_zero false r inner = If (Reg r) true (Number 0) End true inner End

-- at position q: the value in register n + 1, then the slot levels
abbrev pub leaf : Places → TermTree → ℕ → Code → Code
leaf w q n inner = level (tested w.values) q n (unless_zero (is_tight w) (n + 1) (nest (slot_levels w.slots.items) q (n + 2) inner))

-- the position inside the loops
abbrev pub position : Places → ℕ → TermTree
position w n = position_in (loop_levels w.loops.items) (Number 0) n

-- the loops, the leaf, and the recovery around a block
abbrev pub walk : Places → List PlanStep → ℕ → Code → Code
walk w steps n inner =
    nest (loop_levels w.loops.items) (Number 0) n (leaf w (position w n) (leaf_at w n) (recovery (coordinates w n) w.tables.items steps [] (steps_at w n) inner))

-- inside: the register of the value, the term of an index that a step gives, and the first register that is free
abbrev pub value_register : Places → ℕ → ℕ
value_register w n = leaf_at w n + 1

abbrev pub index_term : Places → List PlanStep → ℕ → ℕ → TermTree
index_term w steps n k = term_at (coordinates w n) steps (steps_at w n) k

abbrev pub end : Places → List PlanStep → ℕ → ℕ
end w steps n = steps_at w n + names_in steps
