-- The columns that a count of queries answers.
use Rattle.std.specs.Prelude.{◌≡◌, ℕ, ◌+◌, ◌*◌, ◌<◌, ◌≤◌, true, List, length}
use Rattle.us_code.specs.declared.pieces.Columns.{Columns}
use Rattle.us_code.specs.Typing.{is_listed, are_distinct}
use Rattle.us_format.specs.Declaration.{Query}
use Rattle.us_gen_counting.specs.Phases.{variable_columns, buffers}

-- the columns of the entries, with a column for each variable
pub record Answers (cs : Columns) (qs : List Query) (names n : ℕ) (out : Columns) : Type 0 where
  pub count : out.count ≡ cs.count
  pub i : out.i ≡ cs.i
  pub j : out.j ≡ cs.j
  pub v : out.v ≡ cs.v
  pub vars : out.vars.items ≡ variable_columns cs qs names n

-- the buffers are among the numbers of the queries, none twice
pub record AreNew (qs : List Query) (n : ℕ) : Type 0 where
  pub once : are_distinct (buffers qs n) ≡ true
  pub own : (b : ℕ) → is_listed b (buffers qs n) ≡ true → (n ≤ b) × (b < n + 64 * length qs)

abbrev pub BuffersAreNew : Type 0
BuffersAreNew = (qs : List Query) (n : ℕ) → AreNew qs n
