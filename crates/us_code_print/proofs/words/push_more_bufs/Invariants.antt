use Rattle.std.proofs.Common.{◌≡◌, ◌++◌, drop, codes}
use Rattle.std.specs.List.{flat_map}
use Rattle.us_code_print.specs.Canon.{buf_text}
use Rattle.us_code_print.proofs.words.push_more_bufs.Given as goal

abbrev pub invariant-loop-buf : goal.invariant-loop-buf
invariant-loop-buf l = l.out.items ++ flat_map (λ b. codes ", " ++ buf_text b) (drop l.buf-index l.bufs) ≡ l.fn.out.items ++ flat_map (λ b. codes ", " ++ buf_text b) l.bufs
