use Rattle.std.proofs.Common.{[], pos, refl, arith}
use Rattle.us_build.specs.Items.{stayed}
use Rattle.us_build.proofs.Stepping.{step_over}
use Rattle.us_build.proofs.steps.stay.Goals as goal

pub loop-item-preserved : goal.loop-item-preserved
loop-item-preserved c =
    step_over stayed stayed c.args.items.now c.loop-item.items c.loop-item.item-index (record { above = 0; at = 0; coordinates = []; value = pos 0 }) (omega arith) c.loop-item.invariant refl
