use Rattle.us_mm.specs.Arrays.{array_in}
use Rattle.us_status.specs.declared.status.Slot.TheVariants.{Operand}
use Rattle.us_inputs.proofs.InputLemmas.{inner_matrix}
use Rattle.us_products.proofs.OperandLemmas.{array_sides, few_cells_there, operand_read, operand_refused}
use Rattle.us_products.proofs.operand.operand_in.Goals as goal

pub returns-in-Ok-clause-plain : goal.returns-in-Ok-clause-plain
returns-in-Ok-clause-plain c = operand_read (array_in c.args.bytes.now) c.in-Ok.x c.in-Ok.ensures

pub returns-in-Ok-clause-cols : goal.returns-in-Ok-clause-cols
returns-in-Ok-clause-cols c = (array_sides c.args.bytes.now c.in-Ok.x c.in-Ok.ensures).cols_side

pub returns-in-Ok-clause-few : goal.returns-in-Ok-clause-few
returns-in-Ok-clause-few c = few_cells_there c.in-Ok.x (array_sides c.args.bytes.now c.in-Ok.x c.in-Ok.ensures) c.cells.ensures.count

pub returns-in-Err-clause-plain : goal.returns-in-Err-clause-plain
returns-in-Err-clause-plain c = operand_refused c.in-Err.fault (array_in c.args.bytes.now) _ c.operand_refusal.ensures c.in-Err.ensures

pub returns-in-Err-clause-refusal : goal.returns-in-Err-clause-refusal
returns-in-Err-clause-refusal c = inner_matrix Operand c.in-Err.fault _ c.operand_refusal.ensures
