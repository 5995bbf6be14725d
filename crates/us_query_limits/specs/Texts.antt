-- Phases that count queries and select entries keep the limits of a program's text.
use Rattle.std.specs.Prelude.{ℕ, ◌+◌, ◌*◌, ◌^◌, ◌<◌, ◌≤◌, List, length, All}
use Rattle.us_code.specs.declared.pieces.Columns.{Columns}
use Rattle.us_expr.specs.declared.queries.Cond.{Cond}
use Rattle.us_format.specs.Matrix.{Shape}
use Rattle.us_format.specs.Declaration.{Query}
use Rattle.us_gen_counting.specs.Phases.{count_phases}
use Rattle.us_gen_counting.specs.Selected.{select_phases}
use Rattle.us_gen_counting.specs.Rooms.{IsCountable}
use Rattle.us_limits.specs.Small.{KeepText}

-- what the phases read: sides and a dim whose numbers are of 32 bits, and at most 32 columns of variables
pub record HasShortNumbers (s : Shape) (cs : Columns) : Type 0 where
  pub rows : s.rows < 2 ^ 32
  pub cols : s.cols < 2 ^ 32
  pub count : cs.count < 2 ^ 32
  pub variables : length cs.vars.items ≤ 32

-- of queries that a part may have, at most 64 items each
abbrev pub CountsKeepLimits : Type 0
CountsKeepLimits =
    (s : Shape) (cs : Columns) (qs : List Query) (n : ℕ) → HasShortNumbers s cs → All IsCountable qs → n + 64 * length qs < 2 ^ 32
    → KeepText (64 * length qs) (count_phases s cs qs n)

-- the same of a head's queries, and at most 64 items more, for at most three conditions
abbrev pub SelectsKeepLimits : Type 0
SelectsKeepLimits =
    (s : Shape) (cs to : Columns) (head : List Query) (conds : List Cond) (k n : ℕ) → HasShortNumbers s cs → to.count < 2 ^ 32 → All IsCountable head
    → length conds ≤ 3 → All (λ c. c.bound < 2 ^ 32) conds → n + 64 * length head < 2 ^ 32
    → KeepText (64 * length head + 64) (select_phases s cs head conds k to n)
