use Rattle.std.proofs.Common.{◌≡◌, ◌++◌, drop}
use Rattle.std.specs.List.{flat_map}
use Rattle.us_code_print.specs.Canon.{make_line}
use Rattle.us_code_print.proofs.printing.push_makes.Given as goal

abbrev pub invariant-loop-make : goal.invariant-loop-make
invariant-loop-make l = l.out.items ++ flat_map make_line (drop l.make-index l.makes) ≡ l.fn.out.items ++ flat_map make_line l.makes
