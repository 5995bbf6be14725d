use Rattle.std.proofs.Common.{◌≡◌}
use Rattle.us_format.specs.Queries.{empty_lanes}
use Rattle.us_query.specs.Lanes.{numbers_in}
use Rattle.us_query.proofs.lanes.empty.Given as goal

abbrev pub invariant-loop : goal.invariant-loop
invariant-loop l = numbers_in l.lanes.items ≡ empty_lanes l.counter
