use Rattle.us_inputs.specs.Views.{contained_of}
use Rattle.us_journeys.proofs.JourneyLemmas.{Going}
use Rattle.us_journeys.proofs.journey.go_along.Given as goal

abbrev pub invariant-loop-i : goal.invariant-loop-i
invariant-loop-i l =
    Going l.fn.journey.held.matrix (contained_of l.fn.journey.held) l.listed l.formats l.i l.journey.held l.journey.lines.items l.journey.listing.items
