use Rattle.std.proofs.Common.{drop}
use Rattle.us_code_print.specs.ReadBack.{NamedNumbers}
use Rattle.us_unit.proofs.names.numbers_are_small.Given as goal

abbrev pub invariant-loop-number : goal.invariant-loop-number
invariant-loop-number l = NamedNumbers (drop l.number-index l.numbers) → NamedNumbers l.numbers
