-- Which buffers are the tables of the queries of a part.
use Rattle.std.specs.Prelude.{ℕ, suc, ◌-◌, ◌^◌, List, [], ◌∷◌, if◌then◌else◌}
use Rattle.us_format.specs.Declaration.{Query, has_table}

-- the number that stands for no table
abbrev pub no_table : ℕ
no_table = 2 ^ 32 - 1

-- the number of the table of each query, the next table being the buffer k
abbrev pub tables_from : ℕ → List Query → List ℕ
tables_from k [] = []
tables_from k (q ∷ qs) = if has_table q then k ∷ tables_from (suc k) qs else no_table ∷ tables_from k qs
