-- Columns that hold the entries of a matrix, and the values of variables at them.
use Rattle.std.specs.Prelude.{◌≡◌, ℕ, ◌<◌, List, map, length, get_or, ℤ, pos, IsTrue}
use Rattle.std.specs.List.Sorted.{IsPermutation}
use Rattle.us_code.specs.declared.pieces.Columns.{Columns}
use Rattle.us_code.specs.Run.{Env}
use Rattle.us_format.specs.Lists.{among}
use Rattle.us_format.specs.Matrix.{Entry, Shape}
use Rattle.us_format.specs.Declaration.{Query, defined}
use Rattle.us_format.specs.Queries.{variable_at}

-- the columns hold the entries of the matrix m in the order es, each once: the cells at one place are one entry, and the dim says how many there are
pub record HoldEntries (env : Env) (bufs : ℕ → List ℤ) (cs : Columns) (m es : List Entry) : Type 0 where
  pub shuffled : IsPermutation m es
  pub count : env.dims cs.count ≡ length es
  pub rows : bufs cs.i ≡ map (λ x. pos x.i) es
  pub cols : bufs cs.j ≡ map (λ x. pos x.j) es
  pub values : bufs cs.v ≡ map (λ x. x.v) es

-- the column of each variable that the queries define holds its value at each entry
abbrev pub HoldVariables : (ℕ → List ℤ) → Columns → Shape → List Entry → List Entry → List Query → Type 0
HoldVariables bufs cs s m es qs =
    (v : ℕ) → v < length cs.vars.items → IsTrue (among v (defined qs)) → bufs (get_or cs.vars.items v 0) ≡ map (variable_at m s qs v) es
