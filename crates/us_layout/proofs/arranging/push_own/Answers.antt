use Rattle.std.proofs.Common.{map, not}
use Rattle.us_format.specs.Packs.{is_packed}
use Rattle.us_judge.specs.Views.{plain_part}
use Rattle.us_layout.specs.Arranging.{list_of, plain_piece}
use Rattle.us_layout.proofs.Arranged.{kept-more}
use Rattle.us_layout.proofs.arranging.push_own.Goals as goal

pub loop-piece-preserved : goal.loop-piece-preserved
loop-piece-preserved c =
    kept-more (list_of (map plain_piece c.args.pieces.now) c.args.lists.now) (λ x. not (is_packed (plain_part c.args.part.now) x)) plain_piece c.args.pieces.now c.loop-piece.piece-index _ _ _ _ c.loop-piece-test.true
    c.loop-piece.invariant c.in_ok-push_unless_packed.ensures
