use Rattle.std.proofs.Common.{◌≡◌, map}
use Rattle.std.specs.List.{position_or_len, range_with_len}
use Rattle.us_format.specs.Buffers.{meets}
use Rattle.us_variables.specs.Counted.{value_in}
use Rattle.us_layout.proofs.splitting.parts_of.Given as goal

abbrev pub invariant-loop-entry : goal.invariant-loop-entry
invariant-loop-entry l = l.parts.items ≡ map (λ k. position_or_len (λ c. meets c (value_in l.variables c.var k)) l.conds) (range_with_len 0 l.entry)
