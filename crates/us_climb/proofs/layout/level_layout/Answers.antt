use Rattle.us_judge.specs.Views.{plain_part}
use Rattle.us_climb.proofs.OwnPlaces.{stored-cells, slot-cells, stored-layout}
use Rattle.us_climb.proofs.layout.level_layout.Goals as goal

pub column_place-requires-clause-own : goal.column_place-requires-clause-own
column_place-requires-clause-own c = stored-cells (plain_part c.args.part.now) c.args.own c.args.level c.args.kind c.in-Compressed.is c.requires.own

pub column_place-requires-in-Slot-clause-own : goal.column_place-requires-in-Slot-clause-own
column_place-requires-in-Slot-clause-own c = slot-cells (plain_part c.args.part.now) c.args.own c.args.level c.args.kind c.in-Slot.is c.requires.own

pub returns-in-Compressed : goal.returns-in-Compressed
returns-in-Compressed c =
    stored-layout c.args.first (plain_part c.args.part.now) c.args.own c.args.level c.args.size c.args.kind c.column_place.result c.in-Compressed.is c.requires.own c.column_place.ensures
