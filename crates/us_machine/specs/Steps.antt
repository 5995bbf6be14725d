-- What a machine's count of steps says of the steps of the definition.
use Rattle.std.specs.Prelude.{◌≡◌, ℕ, ◌-◌, ◌<◌, ◌^◌, min, true, false, Option, Some, None}
use Rattle.us_machine.specs.declared.budget.Budget.{Budget}

-- with no budget the count stops at 2 ^ 64 - 1
abbrev pub budget_of : Option ℕ → Budget
budget_of (Some limit) = record { limit = limit; bounded = true }
budget_of None = record { limit = 2 ^ 64 - 1; bounded = false }

-- `steps` is shown for n steps: n itself up to the limit, and the limit beyond
pub record Shows (b : Budget) (steps n : ℕ) : Type 0 where
  pub shown : min n b.limit ≡ min steps b.limit
  pub exact : b.bounded ≡ true → n ≡ steps

-- n steps are more than the run may take
pub record IsOver (b : Budget) (n : ℕ) : Type 0 where
  pub bounded : b.bounded ≡ true
  pub over : b.limit < n
