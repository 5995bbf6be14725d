-- The phase in front of the one that lists entries. It makes dims: the extents, the numbers of nodes, and the number of entries.
use Rattle.std.specs.Prelude.{ℕ, ◌+◌, ◌*◌, Bool, true, false, cond, List, [], ◌∷◌, ◌++◌, length}
use Rattle.us_code.specs.declared.program.Dim.{Dim}
use Rattle.us_code.specs.declared.program.Dim.TheVariants as dim
use Rattle.us_code.specs.declared.program.Buf.TheVariants as buf
use Rattle.us_code.specs.Plain.{TermTree, Number, Reg, Size, Add, Div, Rem, Code, End, Load, Var, Put, For, If, When, ◌+++◌, LineTree, PhaseTree}
use Rattle.us_code.specs.Plain as plain
use Rattle.us_gen_recover.specs.declared.places.Table.{Table}
use Rattle.us_gen_walk.specs.declared.places.Column.{Column}
use Rattle.us_gen_walk.specs.declared.places.Column.TheVariants as column
use Rattle.us_gen_walk.specs.declared.places.Loop.{Loop}
use Rattle.us_gen_walk.specs.declared.places.Loop.TheVariants as over
use Rattle.us_gen_walk.specs.Walk.{ends_in_nodes, unless_zero}
use Rattle.us_gen_opening.specs.declared.parts.Extent.{Extent}
use Rattle.us_gen_opening.specs.declared.parts.Opening.{Opening}

-- ---- extents

-- of the queries of a part: those with a dim have sources one behind the other
abbrev pub with_extent : ℕ → Dim → (ℕ → List Extent) → List Extent
with_extent k (dim.Name d) more = record { source = k; dim = d } ∷ more (k + 1)
with_extent k (dim.Number n) more = more k
with_extent k (dim.Len j) more = more k

abbrev pub extents_from : ℕ → List Table → List Extent
extents_from k [] = []
extents_from k (t ∷ ts) = with_extent k t.extent (λ j. extents_from j ts)

-- reads an extent from its one cell into register n
abbrev pub read_extent : Extent → ℕ → Code
read_extent e n =
    Var n (Number 0) (
    When (Number 0) (dim.Len e.source) (n + 1) (
    Load (n + 2) (buf.Source e.source) (Reg (n + 1)) (
    Put n (Reg (n + 2)) End))
    false End End)

-- with three registers for each
abbrev pub read_extents : List Extent → ℕ → Code
read_extents [] n = End
read_extents (e ∷ es) n = read_extent e n +++ read_extents es (n + 3)

abbrev pub extent_lines : List Extent → ℕ → List LineTree
extent_lines [] n = []
extent_lines (e ∷ es) n = plain.Of e.dim (Reg n) ∷ extent_lines es (n + 3)

-- ---- nodes

-- how many cells a column has
abbrev pub cells_term : Column → TermTree
cells_term (column.Own k) = Size (dim.Len k)
cells_term (column.Packed k w digit) = Div (Size (dim.Len k)) w

-- how many nodes there are, where their coordinates are in a pack, and one more
abbrev pub nodes_lines : Column → Dim → List LineTree
nodes_lines (column.Own k) nodes = []
nodes_lines (column.Packed k w digit) (dim.Name d) = plain.Of d (Div (Size (dim.Len k)) w) ∷ []
nodes_lines (column.Packed k w digit) (dim.Number n) = []
nodes_lines (column.Packed k w digit) (dim.Len j) = []

abbrev pub more_lines : Dim → Dim → List LineTree
more_lines (dim.Name d) nodes = plain.Successor d nodes ∷ []
more_lines (dim.Number n) nodes = []
more_lines (dim.Len j) nodes = []

abbrev pub level_lines : Loop → List LineTree
level_lines (over.Full size low) = []
level_lines (over.Nodes k more nodes crd low) = nodes_lines crd nodes ++ more_lines more nodes

abbrev pub loop_lines : List Loop → List LineTree
loop_lines [] = []
loop_lines (l ∷ ls) = level_lines l ++ loop_lines ls

-- ---- the number of entries of a part

-- adds 1 to register n where the cell of source k at the place in register n + 1 isn't 0
abbrev pub count_cell : ℕ → ℕ → Code
count_cell k n = Load (n + 2) (buf.Source k) (Reg (n + 1)) (unless_zero false (n + 2) (Put n (Add (Reg n) (Number 1)) End))

-- the same at the places of the column, where it is in a pack
abbrev pub count_turn : Column → ℕ → Code
count_turn (column.Own k) n = count_cell k n
count_turn (column.Packed k w digit) n = If (Rem (Reg (n + 1)) w) true (Number digit) (count_cell k n) false End End

abbrev pub source_of : Column → ℕ
source_of (column.Own k) = k
source_of (column.Packed k w digit) = k

-- counts the cells of a column that aren't 0 in register n
abbrev pub count_cells : Column → ℕ → Code
count_cells c n = Var n (Number 0) (For (n + 1) (dim.Len (source_of c)) (count_turn c n) End)

-- each value is that of an entry
abbrev pub is_tight : Opening → Bool
is_tight o = ends_in_nodes false o.loops.items

abbrev pub count_part : Opening → ℕ → Code
count_part o n = cond (is_tight o) End (count_cells o.values n)

abbrev pub part_term : Opening → ℕ → TermTree
part_term o n = cond (is_tight o) (cells_term o.values) (Reg n)

-- ---- all parts

-- how many registers the code of a part names, and the first of those behind its extents
abbrev pub room : Opening → ℕ
room o = 3 * length o.extents.items + 3

abbrev pub rooms : List Opening → ℕ
rooms [] = 0
rooms (o ∷ os) = room o + rooms os

abbrev pub counter : Opening → ℕ → ℕ
counter o n = n + 3 * length o.extents.items

-- the extents and the number of entries, part by part, with registers from n on
abbrev pub opening_code : List Opening → ℕ → Code
opening_code [] n = End
opening_code (o ∷ os) n = read_extents o.extents.items n +++ (count_part o (counter o n) +++ opening_code os (counter o n + 3))

-- a term and the numbers of entries of parts, added up
abbrev pub add_terms : TermTree → List Opening → ℕ → TermTree
add_terms t [] n = t
add_terms t (o ∷ os) n = add_terms (Add t (part_term o (counter o n))) os (counter o n + 3)

abbrev pub total_term : List Opening → ℕ → TermTree
total_term [] n = Number 0
total_term (o ∷ os) n = add_terms (part_term o (counter o n)) os (counter o n + 3)

-- the dims of the extents and nodes, part by part, and behind them a last one
abbrev pub opening_lines : List Opening → ℕ → LineTree → List LineTree
opening_lines [] n last = last ∷ []
opening_lines (o ∷ os) n last = extent_lines o.extents.items n ++ (loop_lines o.loops.items ++ opening_lines os (counter o n + 3) last)

abbrev pub all_lines : ℕ → ℕ → List Opening → List LineTree
all_lines count n os = opening_lines os n (plain.Of count (total_term os n))

-- the dim `count` is the number of entries of all parts
abbrev pub opening_phase : ℕ → ℕ → List Opening → PhaseTree
opening_phase count n os = record { makes = []; body = opening_code os n; lines = all_lines count n os }
