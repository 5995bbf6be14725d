use Rattle.std.proofs.Common.{List, map, sym, subst, arith, All}
use Rattle.std.proofs.lemmas.List.{length-map}
use Rattle.us_decl.specs.declared.column.Column as columns
use Rattle.us_format.specs.Packs.{CellsOf}
use Rattle.us_judge.specs.Views.{column_of, plain_part}
use Rattle.us_layout.specs.Arranging.{list_of, plain_piece}
use Rattle.us_layout.specs.Interleaving.{HaveOneLength}
use Rattle.us_levels.proofs.Owning.{count-least}
use Rattle.us_levels.proofs.comparing.pack_difference.Goals as goal

pub packs_difference-requires-clause-room : goal.packs_difference-requires-clause-room
packs_difference-requires-clause-room c =
    omega (arith, c.as_slice.type_inv, c.requires.few, c.requires.room, c.own_count-own.ensures, count-least (plain_part c.args.part.now) (map plain_piece c.args.names.now), length-map c.args.names.now plain_piece)

pub packs_difference-requires-clause-packs : goal.packs_difference-requires-clause-packs
packs_difference-requires-clause-packs c =
    subst (λ (packs : List (List columns.Column)). All (λ pack. HaveOneLength (map (λ x. list_of (map plain_piece c.args.names.now) c.args.lists.now (CellsOf x)) (map column_of pack))) packs) (sym c.as_slice.ensures) c.requires.packs

pub overflow_add-first : goal.overflow_add-first
overflow_add-first c = record {
  fits = omega (arith, c.requires.few, c.requires.room, c.own_count-own.ensures, count-least (plain_part c.args.part.now) (map plain_piece c.args.names.now), length-map c.args.names.now plain_piece);
}
