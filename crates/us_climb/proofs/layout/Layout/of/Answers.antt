use Rattle.std.proofs.Common.{◌≡◌, ◌+◌, ◌-◌, ◌<◌, length, map, subst, arith}
use Rattle.std.proofs.lemmas.List.{length-map}
use Rattle.us_format.specs.Program.{plain_shape}
use Rattle.us_format.specs.Declaration.{Part}
use Rattle.us_format.specs.Reading.{pack_place}
use Rattle.us_judge.specs.Format.{part_at}
use Rattle.us_judge.specs.Views.{declaration_of, plain_part, column_of}
use Rattle.us_climb.specs.Layout.{IsLayout}
use Rattle.us_climb.proofs.PartThere.{is-part, packs-behind}
use Rattle.us_climb.proofs.layout.Layout.of.Goals as goal

pub layout_of-requires-clause-part : goal.layout_of-requires-clause-part
layout_of-requires-clause-part c =
    let below : c.args.number - 1 < length (declaration_of c.args.format.now).parts = omega (arith, c.requires.from_one, c.requires.part) in
    is-part c.args.format.now (c.args.number - 1) (plain_part c.part-part.result.now) c.part-part.ensures.valid c.part-part.ensures.accepted below c.part-part.ensures.is

pub layout_of-requires-clause-first : goal.layout_of-requires-clause-first
layout_of-requires-clause-first c =
    let total : c.part_buffers.result ≡ pack_place (plain_part c.part-part.result.now) 0 + length (map (map column_of) c.part-part.result.now.packs) =
    packs-behind (plain_part c.part-part.result.now) (part_at (declaration_of c.args.format.now) (c.args.number - 1)) c.part_buffers.result c.part_buffers.ensures.count c.part-part.ensures.is in
    omega (arith, total, length-map c.part-part.result.now.packs (map column_of), c.len.ensures)

pub layout_of-requires-clause-room : goal.layout_of-requires-clause-room
layout_of-requires-clause-room c =
    let total : c.part_buffers.result ≡ pack_place (plain_part c.part-part.result.now) 0 + length (map (map column_of) c.part-part.result.now.packs) =
    packs-behind (plain_part c.part-part.result.now) (part_at (declaration_of c.args.format.now) (c.args.number - 1)) c.part_buffers.result c.part_buffers.ensures.count c.part-part.ensures.is in
    omega (arith, total, length-map c.part-part.result.now.packs (map column_of), c.len.ensures, c.part_buffers.ensures.few)

pub returns : goal.returns
returns c =
    subst (λ (p : Part). IsLayout c.args.first (plain_shape c.args.shape) c.args.extents.now p c.layout_of.result) c.part-part.ensures.is c.layout_of.ensures
