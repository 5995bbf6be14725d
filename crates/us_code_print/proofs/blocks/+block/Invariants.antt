use Rattle.std.proofs.Common.{◌≡◌, ◌++◌, take}
use Rattle.us_code.specs.Plain.{plain_list}
use Rattle.us_code_print.specs.Canon.{block_lines}
use Rattle.us_code_print.proofs.blocks.+block.Given as goal

abbrev pub invariant-push_block-loop-stmt : goal.invariant-push_block-loop-stmt
invariant-push_block-loop-stmt l = l.out.items ≡ l.fn.out.items ++ block_lines l.depth (plain_list (take l.stmt-index l.stmt-items))
