use Rattle.us_layout.proofs.Arranged.{level-more, levels-end}
use Rattle.us_layout.proofs.pieces.pieces_of.Goals as goal

pub loop-level-preserved : goal.loop-level-preserved
loop-level-preserved c = level-more c.args.kinds.now c.loop-level.level _ _ _ _ c.loop-level-test.true c.loop-level.invariant c.in_ok-push_level_pieces.ensures

pub returns : goal.returns
returns c = levels-end c.args.kinds.now c.loop-level.level _ _ _ c.loop-level-test.false c.loop-level.invariant c.in_ok-push.ensures.items
