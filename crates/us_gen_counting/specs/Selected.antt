-- The phases that select the entries of a part of a split.
use Rattle.std.specs.Prelude.{◌≡◌, ℕ, zero, suc, ◌+◌, ◌*◌, not, List, [], ◌∷◌, ◌++◌, length, Bool}
use Rattle.us_code.specs.declared.pieces.Columns.{Columns}
use Rattle.us_code.specs.Plain.{Reg, Of, PhaseTree}
use Rattle.us_expr.specs.declared.queries.Cond.{Cond}
use Rattle.us_format.specs.Matrix.{Shape}
use Rattle.us_format.specs.Declaration.{Query}
use Rattle.us_gen_query.specs.declared.selecting.Test.{Test}
use Rattle.us_gen_query.specs.Selecting.{count_chosen, copy_chosen}
use Rattle.us_gen_counting.specs.Phases.{words, column_of, count_phases}

-- a test of the column of a condition's variable
abbrev pub test_of : (ℕ → ℕ) → Cond → Bool → Test
test_of column c less = record { buf = column c.var; less = less; bound = c.bound }

-- the tests of the k-th part, counted from 0: no condition before its own holds, and its own does, if there is one
abbrev pub part_tests : (ℕ → ℕ) → List Cond → ℕ → List Test
part_tests column [] k = []
part_tests column (c ∷ cs) zero = test_of column c c.less ∷ []
part_tests column (c ∷ cs) (suc k) = test_of column c (not c.less) ∷ part_tests column cs k

-- the tests over the columns of the head's variables
abbrev pub tests : Columns → List Query → List Cond → ℕ → ℕ → List Test
tests cs head conds k n = part_tests (λ v. column_of head v n cs.i) conds k

-- counts the entries that pass into dim b
abbrev pub count_phase : Columns → List Test → ℕ → PhaseTree
count_phase cs ts b = record { makes = []; body = count_chosen cs ts (b + 8); lines = Of b (Reg (b + 8)) ∷ [] }

-- puts them into new columns
abbrev pub copy_phase : Columns → List Test → Columns → ℕ → PhaseTree
copy_phase cs ts to b = record { makes = words to.i to ∷ words to.j to ∷ words to.v to ∷ []; body = copy_chosen cs ts to (b + 8); lines = [] }

abbrev pub both : Columns → List Test → Columns → ℕ → List PhaseTree
both cs ts to b = count_phase cs ts b ∷ copy_phase cs ts to b ∷ []

-- the first number behind those of the head's queries
abbrev pub base : List Query → ℕ → ℕ
base head n = n + 64 * length head

-- the phases of the head's queries, and these two
abbrev pub select_phases : Shape → Columns → List Query → List Cond → ℕ → Columns → ℕ → List PhaseTree
select_phases s cs head conds k to n =
    count_phases s cs head n ++ both cs (tests cs head conds k n) to (base head n)

-- the new columns, and their dim
pub record IsSelected (to : Columns) (b : ℕ) : Type 0 where
  pub count : to.count ≡ b
  pub i : to.i ≡ b + 1
  pub j : to.j ≡ b + 2
  pub v : to.v ≡ b + 3
  pub vars : to.vars.items ≡ []
