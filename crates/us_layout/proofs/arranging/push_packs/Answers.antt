use Rattle.std.proofs.Common.{map, ap, ◌∙◌, subst, sym}
use Rattle.us_judge.specs.Views.{column_of}
use Rattle.us_layout.specs.Arranging.{plain_piece}
use Rattle.us_layout.specs.Interleaving.{HaveOneLength, interleaved_cells}
use Rattle.us_layout.proofs.Arranged.{pack_lists}
use Rattle.us_layout.proofs.Interleaved.{walked-more}
use Rattle.us_layout.proofs.arranging.push_packs.Goals as goal

pub pack_cells-requires : goal.pack_cells-requires
pack_cells-requires c =
    subst (λ pack. HaveOneLength (pack_lists (map plain_piece c.args.pieces.now) c.args.lists.now (map column_of pack))) (sym c.pack-item.is) (c.requires c.loop-pack.pack-index c.pack-item.result c.loop-pack-test.true)

pub loop-pack-preserved : goal.loop-pack-preserved
loop-pack-preserved c =
    walked-more (λ pack. interleaved_cells (pack_lists (map plain_piece c.args.pieces.now) c.args.lists.now (map column_of pack))) c.args.packs.now c.loop-pack.pack-index c.pack-item.result _ _ _ _ c.loop-pack-test.true
    c.loop-pack.invariant c.in_ok-push.ensures.ok
    (c.in_ok-pack_cells.ensures ∙ ap (λ pack. interleaved_cells (pack_lists (map plain_piece c.args.pieces.now) c.args.lists.now (map column_of pack))) c.pack-item.is)
