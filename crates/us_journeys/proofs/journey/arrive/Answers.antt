use Rattle.us_journeys.proofs.JourneyLemmas.{goes_on}
use Rattle.us_journeys.proofs.journey.arrive.Goals as goal

pub returns-in-Ok-clause-goes : goal.returns-in-Ok-clause-goes
returns-in-Ok-clause-goes c =
    goes_on c.args.listed c.args.format.now c.args.journey.now.held c.args.hopped c.args.journey.now.lines.items c.tell-told.new.journey.lines.items c.args.journey.now.listing.items
    c.tell-told.new.journey.listing.items c.requires c.buffers.ensures.held c.in-Ok.ensures.lines c.in-Ok.ensures.lists
