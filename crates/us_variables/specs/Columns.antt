-- The values of variables at entries, by columns.
use Rattle.std.specs.Prelude.{◌≡◌, ℕ, ◌<◌, ℤ, pos, List, [], ◌∷◌, length, nat_eq, if◌then◌else◌, slice_index_or}
use Rattle.us_format.specs.Matrix.{Entry, Shape}
use Rattle.us_format.specs.Declaration.{Query}
use Rattle.us_format.specs.Queries.{variable_at}
use Rattle.us_variables.specs.declared.columns.Column.{Column}

-- the value of the variable v at the entry k by the first column that has it, else the rest
abbrev pub value_or : List Column → ℕ → ℕ → ℤ → ℤ
value_or [] v k rest = rest
value_or (c ∷ cs) v k rest = if nat_eq c.var v then pos (slice_index_or c.numbers.items k 0) else value_or cs v k rest

-- the columns of a query stand behind those that were there: what follows has one query more in front
abbrev pub Adds : List Entry → Shape → Query → List Column → List Column → Type 0
Adds m s q old now =
    (qs : List Query) (v k : ℕ) (d : Entry) → k < length m
    → value_or now v k (variable_at m s qs v (slice_index_or m k d)) ≡ value_or old v k (variable_at m s (q ∷ qs) v (slice_index_or m k d))
