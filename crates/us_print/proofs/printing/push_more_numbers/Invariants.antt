use Rattle.std.proofs.Common.{◌≡◌, ◌++◌, drop}
use Rattle.std.specs.Fmt.{decimal}
use Rattle.std.specs.List.{flat_map}
use Rattle.us_print.specs.Canon.{comma}
use Rattle.us_print.proofs.printing.push_more_numbers.Given as goal

abbrev pub invariant-loop-number : goal.invariant-loop-number
invariant-loop-number l = l.out.items ++ flat_map (λ n. comma ++ decimal n) (drop l.number-index l.numbers) ≡ l.fn.out.items ++ flat_map (λ n. comma ++ decimal n) l.numbers
