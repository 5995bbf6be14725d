-- The phase that adds the products of the entries of parts and an operand.
use Rattle.std.specs.Prelude.{ℕ, ◌+◌, ◌*◌, Bool, false, cond, nat_eq, List, [], ◌∷◌, length, Option, Some, None}
use Rattle.us_code.specs.declared.program.Buf.TheVariants as buf
use Rattle.us_code.specs.declared.program.CellKind.TheVariants as kind
use Rattle.us_code.specs.declared.program.Dim.{Dim}
use Rattle.us_code.specs.declared.program.Dim.TheVariants as dim
use Rattle.us_code.specs.declared.program.Make.{Make}
use Rattle.us_code.specs.Plain.{TermTree, Number, Reg, Add, Mul, Code, End, Load, Set, For, When, ◌+++◌, PhaseTree}
use Rattle.us_gen_unpack.specs.declared.listing.PartWalk.{PartWalk}
use Rattle.us_gen_walk.specs.Walk.{walk, value_register, index_term, end}
use Rattle.us_gen_product.specs.declared.product.Product.{Product}

abbrev pub is_vector : Product → Bool
is_vector p = nat_eq p.columns 1

abbrev pub cells : Product → ℕ
cells p = p.rows * p.columns

abbrev pub result_length : Product → Dim
result_length p = dim.Number (cells p)

-- index e in the column whose number is in a register, or in the first, where columns have this many cells
abbrev pub in_column : Option ℕ → ℕ → TermTree → TermTree
in_column None size e = e
in_column (Some r) size e = Add (Mul (Reg r) (Number size)) e

-- adds value times factor, which is in register n + 1, to the cell whose place is in register n + 2
abbrev pub add_to_cell : Product → ℕ → ℕ → Code
add_to_cell p value n =
    Load (n + 3) (buf.New p.result) (Reg (n + 2)) (
    Set (buf.New p.result) (Reg (n + 2)) (Add (Reg (n + 3)) (Mul (Reg value) (Reg (n + 1)))) End)

-- adds what an entry adds in one column
abbrev pub add_product : Product → Option ℕ → TermTree → TermTree → ℕ → ℕ → Code
add_product p k row col value n =
    When (in_column k p.inner col) (dim.Len p.operand) n (
    Load (n + 1) (buf.Source p.operand) (Reg n) (
    When (in_column k p.rows row) (result_length p) (n + 2) (add_to_cell p value n)
    false End End))
    false End End

-- in all columns, with register n for their number
abbrev pub add_products : Product → TermTree → TermTree → ℕ → ℕ → Code
add_products p row col value n =
    cond (is_vector p) (add_product p None row col value (n + 1)) (For n (dim.Number p.columns) (add_product p (Some n) row col value (n + 1)) End)

-- how many registers a part's loops name, at most
abbrev pub room : PartWalk → ℕ
room x = 14 * length x.places.loops.items + 2 * length x.places.slots.items + 2 * length x.steps.items + 72

abbrev pub rooms : List PartWalk → ℕ
rooms [] = 0
rooms (x ∷ xs) = room x + rooms xs

-- the loops of a part, with registers from n on
abbrev pub add_part : Product → PartWalk → ℕ → Code
add_part p x n =
    walk x.places x.steps.items n
    (add_products p (index_term x.places x.steps.items n x.row) (index_term x.places x.steps.items n x.col) (value_register x.places n)
    (end x.places x.steps.items n))

abbrev pub end_of_part : PartWalk → ℕ → ℕ
end_of_part x n = end x.places x.steps.items n + 5

abbrev pub add_parts : Product → List PartWalk → ℕ → Code
add_parts p [] n = End
add_parts p (x ∷ xs) n = add_part p x n +++ add_parts p xs (end_of_part x n)

abbrev pub made_result : Product → Make
made_result p = record { buf = p.result; len = result_length p; cell = kind.Word }

abbrev pub product_phase : Product → List PartWalk → ℕ → PhaseTree
product_phase p xs n = record { makes = made_result p ∷ []; body = add_parts p xs n; lines = [] }
