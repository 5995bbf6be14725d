use Rattle.std.proofs.Common.{Err, ap}
use Rattle.us_journeys.proofs.JourneyLemmas.{too_large_at}
use Rattle.us_journeys.proofs.journey.go_on.Goals as goal

pub returns-in-Err-TooLarge-clause-plain : goal.returns-in-Err-TooLarge-clause-plain
returns-in-Err-TooLarge-clause-plain c =
    too_large_at c.args.journey.now.held.matrix c.args.k c.args.format.now (c.in-Err-TooLarge.ensures.large (ap Err c.in-Err-TooLarge.field-0-is))
