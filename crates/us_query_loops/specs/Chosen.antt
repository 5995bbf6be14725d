-- The entries of a part of a split.
use Rattle.std.specs.Prelude.{ℕ, zero, suc, List, [], ◌∷◌, Bool, true, not, ◌&&◌}
use Rattle.us_expr.specs.declared.queries.Cond.{Cond}
use Rattle.us_format.specs.Matrix.{Entry, Shape}
use Rattle.us_format.specs.Declaration.{Declaration}
use Rattle.us_format.specs.Buffers.{holds}

-- no condition before the k-th holds, and the k-th does, if there is one
abbrev pub is_first : (Cond → Entry → Bool) → List Cond → ℕ → Entry → Bool
is_first test [] k x = true
is_first test (c ∷ cs) zero x = test c x
is_first test (c ∷ cs) (suc k) x = not (test c x) && is_first test cs k x

-- whether an entry of the matrix goes to the k-th part, counted from 0
abbrev pub goes_to : List Entry → Shape → Declaration → ℕ → Entry → Bool
goes_to m s d k = is_first (holds m s d) d.conds k
