-- The fields and the symmetries of matrix files.
use Rattle.std.specs.Prelude.{ℕ, ◌-◌, ◌%◌, ◌^◌, ◌==◌, Bool, true, nat_lt, nat_le, List, [], ◌∷◌, ℤ, if◌then◌else◌}
use Rattle.std.specs.Int.{w64, cast_unsigned, cast_signed}
use Rattle.us_matrix.specs.declared.matrix.Triple.{Triple}
use Rattle.us_mm.specs.declared.form.Symmetry.{Symmetry}
use Rattle.us_mm.specs.declared.form.Symmetry.TheVariants.{General, Symmetric, SkewSymmetric}

-- a matrix that isn't general has as many columns as rows
abbrev pub allows : Symmetry → ℕ → ℕ → Bool
allows General rows cols = true
allows Symmetric rows cols = rows == cols
allows SkewSymmetric rows cols = rows == cols

-- the stored triangle: all, on or below the diagonal, strictly below it
abbrev pub stores : Symmetry → ℕ → ℕ → Bool
stores General row col = true
stores Symmetric row col = nat_le col row
stores SkewSymmetric row col = nat_lt col row

-- the negative modulo 2^64, shown signed
abbrev pub negated : ℤ → ℤ
negated v = cast_signed w64 ((2 ^ 64 - cast_unsigned w64 v) % 2 ^ 64)

-- an entry stands for its triple, and off the diagonal also for the mirrored one
abbrev pub stands_for : Symmetry → Triple → List Triple
stands_for General t = t ∷ []
stands_for Symmetric t = if t.i == t.j then t ∷ [] else t ∷ record { i = t.j; j = t.i; v = t.v } ∷ []
stands_for SkewSymmetric t = if t.i == t.j then t ∷ [] else t ∷ record { i = t.j; j = t.i; v = negated t.v } ∷ []
