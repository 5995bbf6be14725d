use Rattle.std.proofs.Common.{arith, ◌∙◌}
use Rattle.us_machine.proofs.Splices.{one_grown, grown_is}
use Rattle.us_machine.proofs.growing.grow.Goals as goal

pub loop-seg-preserved : goal.loop-seg-preserved
loop-seg-preserved c = record {
  lists = one_grown c.args.plan.now c.args.old.now.lists c.loop-seg.region.lists c.copy_list.new.region.lists c.loop-seg.seg (omega (arith, c.requires.count)) c.requires.grown.fewer c.loop-seg.invariant.lists c.copy_list.ensures.lists;
  widths = c.copy_list.ensures.widths ∙ c.loop-seg.invariant.widths;
}

pub returns : goal.returns
returns c = (c.loop-seg.invariant.lists ∙ grown_is c.args.plan.now c.args.old.now.lists c.loop-seg.seg (omega (arith, c.requires.count)), c.loop-seg.invariant.widths)
