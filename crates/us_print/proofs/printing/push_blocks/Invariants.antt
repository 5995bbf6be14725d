use Rattle.std.proofs.Common.{◌≡◌, ◌++◌, drop, map}
use Rattle.us_decl.specs.Views.{part_view}
use Rattle.us_print.specs.Canon.{blocks_lines}
use Rattle.us_print.proofs.printing.push_blocks.Given as goal

abbrev pub invariant-loop-place : goal.invariant-loop-place
invariant-loop-place l = l.out.items ++ blocks_lines l.names (drop l.place l.conds) (map part_view (drop l.place l.parts)) ≡ l.fn.out.items ++ blocks_lines l.names l.conds (map part_view l.parts)
