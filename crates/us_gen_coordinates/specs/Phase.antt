-- The phase that makes a column of the coordinates of each level: the level's value less the low end of its range.
use Rattle.std.specs.Prelude.{ℕ, suc, ◌+◌, List, [], ◌∷◌, get_or, eqb, if◌then◌else◌, ℤ, pos, negsuc, Option, Some, None}
use Rattle.us_code.specs.declared.program.Dim.TheVariants as dim
use Rattle.us_code.specs.declared.program.Buf.TheVariants as buf
use Rattle.us_code.specs.declared.program.Make.{Make}
use Rattle.us_code.specs.declared.pieces.Columns.{Columns}
use Rattle.us_code.specs.Plain.{TermTree, Number, Reg, Add, Sub, Code, End, Load, Set, For, ◌+++◌, PhaseTree}
use Rattle.us_expr.specs.Tree.{Tree, RowIndex, ColIndex, Variable}
use Rattle.us_gen_query.specs.Filling.{fill}
use Rattle.us_gen_counting.specs.Phases.{words}

-- the column of an index or a variable alone
abbrev pub alone : Columns → Tree → Option ℕ
alone cs RowIndex = Some cs.i
alone cs ColIndex = Some cs.j
alone cs (Variable v) = Some (get_or cs.vars.items v 0)
alone cs _ = None

-- the same where the low end is 0: it has the coordinates already
abbrev pub given : Columns → Tree → ℤ → Option ℕ
given cs e (pos k) = if eqb k 0 then alone cs e else None
given cs e (negsuc k) = None

-- that column, or buffer n
abbrev pub or_new : Option ℕ → ℕ → ℕ
or_new None n = n
or_new (Some c) n = c

abbrev pub column_for : Columns → Tree → ℤ → ℕ → ℕ
column_for cs e low n = or_new (given cs e low) n

-- the columns of levels, whose names are n to n + 39 for the first of them
abbrev pub columns_for : Columns → List Tree → List ℤ → ℕ → List ℕ
columns_for cs (e ∷ es) (low ∷ lows) n = column_for cs e low n ∷ columns_for cs es lows (n + 40)
columns_for cs _ _ n = []

-- the number in register r less a low end
abbrev pub lowered : ℕ → ℤ → TermTree
lowered r (pos k) = Sub (Reg r) (Number k)
lowered r (negsuc k) = Add (Reg r) (Number (suc k))

-- each cell of buffer b becomes less by the low end
abbrev pub lower : Columns → ℤ → ℕ → ℕ → Code
lower cs low b n = For n (dim.Name cs.count) (Load (n + 1) (buf.New b) (Reg n) (Set (buf.New b) (Reg n) (lowered (n + 1) low) End)) End

-- a buffer for a level that has no column yet, and the loops that fill it
abbrev pub made_for : Option ℕ → Columns → ℕ → List Make → List Make
made_for None cs n rest = words n cs ∷ rest
made_for (Some c) cs n rest = rest

abbrev pub filled_for : Option ℕ → Columns → Tree → ℤ → ℕ → Code → Code
filled_for None cs e low n rest = fill cs e n (n + 1) +++ (lower cs low n (n + 37) +++ rest)
filled_for (Some c) cs e low n rest = rest

abbrev pub makes : Columns → List Tree → List ℤ → ℕ → List Make
makes cs (e ∷ es) (low ∷ lows) n = made_for (given cs e low) cs n (makes cs es lows (n + 40))
makes cs _ _ n = []

abbrev pub body : Columns → List Tree → List ℤ → ℕ → Code
body cs (e ∷ es) (low ∷ lows) n = filled_for (given cs e low) cs e low n (body cs es lows (n + 40))
body cs _ _ n = End

abbrev pub coordinates_phase : Columns → List Tree → List ℤ → ℕ → PhaseTree
coordinates_phase cs es lows n = record { makes = makes cs es lows n; body = body cs es lows n; lines = [] }
