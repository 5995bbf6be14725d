use Rattle.us_parse.proofs.Asking.{query_else, query_lanes}
use Rattle.us_parse.proofs.reading.Reader.query.Goals as goal

pub returns-then-take : goal.returns-then-take
returns-then-take c = query_lanes _ _ _ _ _ c.in_ok-var.ensures.ok _ _ _ _ (c.take.ensures.taken c.if-take.true) c.schedule.ensures

pub returns-else-take : goal.returns-else-take
returns-else-take c = query_else _ _ _ _ _ _ _ _ _ c.in_ok-var.ensures.ok (c.take.ensures.same c.if-take.false) c.single.ensures
