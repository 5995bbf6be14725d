use Rattle.std.proofs.Common.{map, ap, ◌∙◌}
use Rattle.us_judge.specs.Views.{plain_part}
use Rattle.us_layout.specs.Arranging.{pieces_by, plain_piece}
use Rattle.us_layout.proofs.Arranged.{arranged-ends, packs-fit, pieces-by-kinds}
use Rattle.us_layout.proofs.arranging.arrange.Goals as goal

pub push_packs-requires : goal.push_packs-requires
push_packs-requires c =
    packs-fit c.args.part.now c.as_slice.result.now (map plain_piece c.deref-2.result.now) c.args.pieces.now c.as_slice.ensures
    (ap (map plain_piece) c.deref-2.ensures.value ∙ c.in_ok-names.ensures ∙ ap (pieces_by 0) c.requires.kinds ∙ pieces-by-kinds (plain_part c.args.part.now)) c.requires.packs

pub returns : goal.returns
returns c bs w =
    arranged-ends c.args.part.now c.args.pieces.now bs (map plain_piece c.deref.result.now) (map plain_piece c.deref-2.result.now) c.as_slice.result.now _ _ _ c.requires.packs w c.new-arranged.ensures
    (ap (map plain_piece) c.deref.ensures.value ∙ c.in_ok-names.ensures ∙ ap (pieces_by 0) c.requires.kinds ∙ pieces-by-kinds (plain_part c.args.part.now))
    (ap (map plain_piece) c.deref-2.ensures.value ∙ c.in_ok-names.ensures ∙ ap (pieces_by 0) c.requires.kinds ∙ pieces-by-kinds (plain_part c.args.part.now))
    c.as_slice.ensures c.in_ok-push_own.ensures c.in_ok-push_packs.ensures
