use Rattle.std.proofs.Common.{ap, sym, ◌∙◌}
use Rattle.us_judge.specs.Views.{plain_part}
use Rattle.us_gen_walk.specs.declared.places.Loop.{Loop}
use Rattle.us_gen_places.specs.declared.levels.LevelPlace.TheVariants.{InFront}
use Rattle.us_gen_parts.proofs.LevelPlaces.{in-front, nodes-there}
use Rattle.us_gen_parts.proofs.OwnPieces.{slot-here}
use Rattle.us_gen_parts.proofs.levels.place_by.Goals as goal

pub loop_of-requires-clause-nodes : goal.loop_of-requires-clause-nodes
loop_of-requires-clause-nodes c = nodes-there (plain_part c.args.part.now) c.args.level c.args.kind c.requires.kind c.in-Compressed.is

pub place_of-requires-clause-own : goal.place_of-requires-clause-own
place_of-requires-clause-own c packed =
    c.requires.own ∙ slot-here (plain_part c.args.part.now) c.args.level c.requires.level (sym c.requires.kind ∙ c.in-Slot.is) packed

pub returns-in-Compressed : goal.returns-in-Compressed
returns-in-Compressed c =
    ap (λ (x : Loop). InFront x) c.loop_of.ensures ∙ in-front c.args.start (plain_part c.args.part.now) c.args.level c.args.counted c.args.range c.args.kind c.in-Compressed.is
