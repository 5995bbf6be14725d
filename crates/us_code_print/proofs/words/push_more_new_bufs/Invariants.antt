use Rattle.std.proofs.Common.{◌≡◌, ◌++◌, drop, codes}
use Rattle.std.specs.List.{flat_map}
use Rattle.us_code_print.specs.Canon.{new_text}
use Rattle.us_code_print.proofs.words.push_more_new_bufs.Given as goal

abbrev pub invariant-loop-number : goal.invariant-loop-number
invariant-loop-number l = l.out.items ++ flat_map (λ b. codes ", " ++ new_text b) (drop l.number-index l.numbers) ≡ l.fn.out.items ++ flat_map (λ b. codes ", " ++ new_text b) l.numbers
