use Rattle.std.proofs.Common.{◌*◌, refl}
use Rattle.std.proofs.lemmas.Result.{IfErr-weaker}
use Rattle.us_format.specs.Program.{shape_in}
use Rattle.us_multiply.specs.declared.multiplying.KernelRun.{KernelRun}
use Rattle.us_products.specs.Factors.{few_cells}
use Rattle.us_products.proofs.MultiplyLemmas.{cells_above, cells_within, memory_ends, memory_refuses, on_any, too_large}
use Rattle.us_products.proofs.multiplying.multiply_last.Goals as goal

pub finished-requires-clause-run : goal.finished-requires-clause-run
finished-requires-clause-run c = record {
  right = c.in-Ok.ensures.right;
  run = c.in-Ok.ensures.run;
  rows = c.in-Ok.ensures.rows;
  cols = c.in-Ok.ensures.cols;
  dense = c.in-Ok.ensures.dense;
  few = c.in-Ok.ensures.causes.1;
}

pub returns-in-Ok-clause-within : goal.returns-in-Ok-clause-within
returns-in-Ok-clause-within c = on_any c.finished.result _ (cells_within c.args.hops (c.args.journey.held.matrix.rows * c.args.x.now.cols) c.in-Ok.ensures.causes.1)

pub returns-in-Ok-clause-plain : goal.returns-in-Ok-clause-plain
returns-in-Ok-clause-plain c =
    IfErr-weaker c.finished.result _ _ (λ s e. memory_ends (few_cells c.args.hops (c.args.journey.held.matrix.rows * c.args.x.now.cols)) s e) c.finished.ensures.memory

pub returns-in-Ok-clause-refusal : goal.returns-in-Ok-clause-refusal
returns-in-Ok-clause-refusal c = IfErr-weaker c.finished.result _ _ (λ s e. memory_refuses s e) c.finished.ensures.memory

pub returns-in-Err-TooLarge-clause-plain : goal.returns-in-Err-TooLarge-clause-plain
returns-in-Err-TooLarge-clause-plain c =
    cells_above c.args.hops (c.args.journey.held.matrix.rows * c.args.x.now.cols)
    (too_large KernelRun c.in-Err-TooLarge.field-0 (shape_in c.args.journey.held.matrix) c.args.x.now c.in-Err-TooLarge.field-0-is c.in-Err-TooLarge.ensures.causes)
