use Rattle.std.proofs.Common.{◌+◌, ◌*◌, rules}
use Rattle.us_format.specs.Lists.{cell}
use Rattle.us_layout.proofs.Interleaved.{made-more}
use Rattle.us_layout.proofs.interleaving.column.Goals as goal

pub loop-x-preserved : goal.loop-x-preserved
loop-x-preserved c = made-more (λ x. cell c.args.cells.now (x * c.args.columns + c.args.y)) c.loop-x.x _ _ _ c.loop-x.invariant c.in_ok-push.ensures.items (search rules)
