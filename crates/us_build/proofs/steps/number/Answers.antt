use Rattle.std.proofs.Common.{[], pos, arith}
use Rattle.us_build.proofs.Numbering.{number-step, numbered-all}
use Rattle.us_build.proofs.steps.number.Goals as goal

pub loop-item-preserved : goal.loop-item-preserved
loop-item-preserved c =
    number-step c.args.index c.args.items.now c.requires.ascending c.loop-item.items c.loop-item.item-index c.loop-item.count c.loop-item.parent c.loop-item.coordinate c.counted-count.result
    (record { above = 0; at = 0; coordinates = []; value = pos 0 }) c.loop-item.invariant (omega arith) c.counted-count.ensures.first c.counted-count.ensures.old c.counted-count.ensures.new

pub returns-clause-count : goal.returns-clause-count
returns-clause-count c =
    numbered-all c.args.index c.args.items.now c.requires.ascending c.loop-item.items c.loop-item.item-index c.loop-item.count c.loop-item.parent c.loop-item.coordinate
    (record { above = 0; at = 0; coordinates = []; value = pos 0 }) c.loop-item.invariant (omega arith)
