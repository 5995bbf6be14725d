use Rattle.std.specs.BTreeSet.{contains}
use Rattle.std.specs.Ordering.{nat_cmp}
use Rattle.std.proofs.Common.{◌≡◌, ℕ, take}
use Rattle.us_code.specs.Typing.{is_listed, are_distinct}
use Rattle.us_bounds.proofs.giving.are_distinct.Given as goal

abbrev pub invariant-loop-number : goal.invariant-loop-number
invariant-loop-number l = record { listed : (q : ℕ) → contains nat_cmp l.before q ≡ is_listed q (take l.number-index l.numbers); distinct : l.distinct ≡ are_distinct (take l.number-index l.numbers) }
