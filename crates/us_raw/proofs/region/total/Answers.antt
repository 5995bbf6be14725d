use Rattle.std.proofs.Common.{◌∙◌, sym, arith}
use Rattle.us_raw.specs.Plan.{no_segment}
use Rattle.us_raw.proofs.Table.{start_first, start_more, start_last}
use Rattle.us_raw.proofs.region.total.Goals as goal

pub loop-index-init : goal.loop-index-init
loop-index-init c = (sym (start_first c.args.plan.now), omega (arith, c.requires.few))

pub loop-index-preserved : goal.loop-index-preserved
loop-index-preserved c =
    let more = start_more c.args.plan.now c.loop-index.index no_segment c.loop-index-test.true in
    (omega (arith, more, c.size-total.ensures.0, c.loop-index.invariant.0), omega (arith, c.size-total.ensures.1, c.loop-index.invariant.1))

pub returns : goal.returns
returns c =
    let plan = c.args.plan.now in
    (c.loop-index.invariant.0 ∙ start_last plan c.loop-index.index (omega arith), omega (arith, c.requires.few, c.loop-index.invariant.1))
