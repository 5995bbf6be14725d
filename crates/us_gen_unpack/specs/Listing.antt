-- The phase that lists the entries of parts in columns.
use Rattle.std.specs.Prelude.{ℕ, ◌+◌, ◌*◌, List, [], ◌∷◌, length}
use Rattle.us_code.specs.declared.program.Dim.TheVariants as dim
use Rattle.us_code.specs.declared.program.CellKind.TheVariants as kind
use Rattle.us_code.specs.declared.program.Make.{Make}
use Rattle.us_code.specs.declared.pieces.Columns.{Columns}
use Rattle.us_code.specs.Plain.{Number, Reg, Code, End, Var, ◌+++◌, PhaseTree}
use Rattle.us_gen.specs.Columns.{Column, entry, append}
use Rattle.us_gen_walk.specs.Walk.{walk, value_register, index_term, end}
use Rattle.us_gen_unpack.specs.declared.listing.PartWalk.{PartWalk}

-- how many registers a part's loops name, at most
abbrev pub room : PartWalk → ℕ
room x = 14 * length x.places.loops.items + 2 * length x.places.slots.items + 2 * length x.steps.items + 64

abbrev pub rooms : List PartWalk → ℕ
rooms [] = 0
rooms (x ∷ xs) = room x + rooms xs

-- an entry of a part whose loops have registers from n on: its row, its column and its value
abbrev pub entry_of : Columns → PartWalk → ℕ → List Column
entry_of c x n = entry c.i c.j c.v (index_term x.places x.steps.items n x.row) (index_term x.places x.steps.items n x.col) (Reg (value_register x.places n))

-- the loops of a part, which append each entry to the columns at the counter in register k
abbrev pub list_part : Columns → ℕ → PartWalk → ℕ → Code
list_part c k x n = walk x.places x.steps.items n (append k (dim.Name c.count) (end x.places x.steps.items n) (entry_of c x n))

abbrev pub end_of_part : PartWalk → ℕ → ℕ
end_of_part x n = end x.places x.steps.items n + 1

abbrev pub list_parts : Columns → ℕ → List PartWalk → ℕ → Code
list_parts c k [] n = End
list_parts c k (x ∷ xs) n = list_part c k x n +++ list_parts c k xs (end_of_part x n)

abbrev pub listing : Columns → ℕ → List PartWalk → Code
listing c k xs = Var k (Number 0) (list_parts c k xs (k + 1))

abbrev pub words : ℕ → ℕ → Make
words buf len = record { buf = buf; len = dim.Name len; cell = kind.Word }

abbrev pub listing_phase : Columns → ℕ → List PartWalk → PhaseTree
listing_phase c k xs = record { makes = words c.i c.count ∷ words c.j c.count ∷ words c.v c.count ∷ []; body = listing c k xs; lines = [] }
