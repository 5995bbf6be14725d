use Rattle.us_format.specs.Packs.{column_from}
use Rattle.us_layout.proofs.Interleaved.{made-more}
use Rattle.us_layout.proofs.interleaving.separate.Goals as goal

pub loop-y-preserved : goal.loop-y-preserved
loop-y-preserved c = made-more (λ y. column_from c.args.columns y c.args.cells.now) c.loop-y.y _ _ _ c.loop-y.invariant c.in_ok-push.ensures.ok c.in_ok-column.ensures
