use Rattle.std.proofs.Common.{[], pos, refl, arith}
use Rattle.us_build.proofs.Passing.{restarted, restarted-all}
use Rattle.us_build.proofs.Stepping.{step_over}
use Rattle.us_build.proofs.passes.restart.Goals as goal

pub loop-item-preserved : goal.loop-item-preserved
loop-item-preserved c =
    step_over restarted restarted c.args.items.now c.loop-item.items c.loop-item.item-index (record { above = 0; at = 0; coordinates = []; value = pos 0 }) (omega arith) c.loop-item.invariant refl

pub returns : goal.returns
returns c = restarted-all c.args.first c.args.items.now c.loop-item.items c.loop-item.item-index (omega arith) c.loop-item.invariant
