use Rattle.std.proofs.Common.{◌≡◌, length, map}
use Rattle.std.specs.List.{range_with_len}
use Rattle.us_variables.specs.Counted.{value_in}
use Rattle.us_variables.proofs.variables.Variables.values.Given as goal

abbrev pub invariant-loop-var : goal.invariant-loop-var
invariant-loop-var l = (l.values.items ≡ map (λ v. value_in l.self v l.entry) (range_with_len 0 l.var)) × (length l.values.items ≡ l.var)
