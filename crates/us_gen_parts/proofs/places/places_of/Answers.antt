use Rattle.std.proofs.Common.{◌≡◌, ◌+◌, ◌-◌, length, map, arith}
use Rattle.std.proofs.lemmas.List.{length-map}
use Rattle.us_format.specs.Reading.{pack_place}
use Rattle.us_judge.specs.Format.{part_at}
use Rattle.us_judge.specs.Views.{declaration_of, plain_part, column_of}
use Rattle.us_gen_parts.proofs.PartThere.{is-part, packs-behind}
use Rattle.us_gen_parts.proofs.places.places_of.Goals as goal

pub places_with-requires-clause-part : goal.places_with-requires-clause-part
places_with-requires-clause-part c =
    is-part c.args.format.now c.args.number (plain_part c.part-part.result.now) c.part-part.ensures.valid c.part-part.ensures.accepted c.requires.from_one c.requires.part c.part-part.ensures.is

pub places_with-requires-clause-first : goal.places_with-requires-clause-first
places_with-requires-clause-first c =
    let total : c.part_buffers.result ≡ pack_place (plain_part c.part-part.result.now) 0 + length (map (map column_of) c.part-part.result.now.packs) =
    packs-behind (plain_part c.part-part.result.now) (part_at (declaration_of c.args.format.now) (c.args.number - 1)) c.part_buffers.result c.part_buffers.ensures.count c.part-part.ensures.is in
    omega (arith, total, length-map c.part-part.result.now.packs (map column_of), c.len.ensures)

pub places_with-requires-clause-room : goal.places_with-requires-clause-room
places_with-requires-clause-room c =
    let total : c.part_buffers.result ≡ pack_place (plain_part c.part-part.result.now) 0 + length (map (map column_of) c.part-part.result.now.packs) =
    packs-behind (plain_part c.part-part.result.now) (part_at (declaration_of c.args.format.now) (c.args.number - 1)) c.part_buffers.result c.part_buffers.ensures.count c.part-part.ensures.is in
    omega (arith, total, length-map c.part-part.result.now.packs (map column_of), c.len.ensures, c.part_buffers.ensures.few)
