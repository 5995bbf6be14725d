use Rattle.us_journeys.proofs.ConvertedLemmas.{converted}
use Rattle.us_journeys.proofs.JourneyLemmas.{in_last}
use Rattle.us_inputs.specs.Views.{contained_of}
use Rattle.us_journeys.proofs.conversion.convert_held.Goals as goal

pub finished-requires : goal.finished-requires
finished-requires c =
    in_last c.args.held.matrix (contained_of c.args.held) c.args.listed c.args.formats.now c.go_along.new.journey.held c.go_along.new.journey.lines.items c.go_along.new.journey.listing.items c.in-Ok.ensures.along

pub returns-in-Ok-clause-made : goal.returns-in-Ok-clause-made
returns-in-Ok-clause-made c =
    converted c.args.chain.now c.args.held.matrix (contained_of c.args.held) c.args.listed c.args.formats.now c.go_along.new.journey.held c.go_along.new.journey.lines.items
    c.go_along.new.journey.listing.items c.finished.result c.in-Ok.ensures.along c.finished.ensures.bytes c.finished.ensures.means c.finished.ensures.lines c.finished.ensures.listing
