use Rattle.std.proofs.Common.{◌≡◌, take}
use Rattle.us_code.specs.Plain.{tree_of, plain_list}
use Rattle.us_code.proofs.+copy.Given as goal

abbrev pub invariant-program::Block::copy-loop-stmt : goal.invariant-program::Block::copy-loop-stmt
invariant-program::Block::copy-loop-stmt l = tree_of l.copy ≡ plain_list (take l.stmt-index l.stmt-items)
