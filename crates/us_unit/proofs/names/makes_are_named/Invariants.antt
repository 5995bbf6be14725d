use Rattle.std.proofs.Common.{drop}
use Rattle.us_code_print.specs.ReadBack.{NamedMakes}
use Rattle.us_unit.proofs.names.makes_are_named.Given as goal

abbrev pub invariant-loop-make : goal.invariant-loop-make
invariant-loop-make l = NamedMakes (drop l.make-index l.makes) → NamedMakes l.makes
