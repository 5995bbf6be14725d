use Rattle.std.proofs.Common.{refl, ap, ◌∙◌}
use Rattle.std.specs.List.{list_any}
use Rattle.us_format.specs.Packs.{CellsOf, same_piece}
use Rattle.us_judge.specs.Views.{column_of, plain_part}
use Rattle.us_layout.specs.Arranging.{plain_piece}
use Rattle.us_layout.proofs.Arranged.{packed-by-names}
use Rattle.us_layout.proofs.pieces.is_packed.Goals as goal

pub returns : goal.returns
returns c =
    c.is_in_some.ensures
    ∙ ap (λ packs. list_any (λ pack. list_any (λ column. same_piece (plain_piece c.args.piece) (CellsOf (column_of column))) pack) packs) c.as_slice.ensures
    ∙ packed-by-names (plain_piece c.args.piece) c.args.part.now.packs (plain_part c.args.part.now) refl
