use Rattle.std.proofs.Common.{take}
use Rattle.us_code.specs.Plain.{plain_list}
use Rattle.us_code_print.specs.ReadBack.{Named}
use Rattle.us_unit.proofs.names.+block.Given as goal

abbrev pub invariant-block_is_named-loop-stmt : goal.invariant-block_is_named-loop-stmt
invariant-block_is_named-loop-stmt l = Named (plain_list (take l.stmt-index l.stmt-items))
