use Rattle.std.proofs.Common.{◌≡◌, ℕ, ◌<◌, false, get_or}
use Rattle.us_format.specs.Buffers.{meets}
use Rattle.us_variables.specs.Counted.{value_in}
use Rattle.us_layout.proofs.splitting.part_of.Given as goal

-- none of the conditions so far holds
abbrev pub invariant-loop-part : goal.invariant-loop-part
invariant-loop-part l =
    (k : ℕ) → k < l.part
    → meets (get_or l.conds k (record { var = 0; less = false; bound = 0 })) (value_in l.variables (get_or l.conds k (record { var = 0; less = false; bound = 0 })).var l.entry) ≡ false
