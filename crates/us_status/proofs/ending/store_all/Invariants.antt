use Rattle.std.proofs.Common.{map}
use Rattle.us_status.specs.Views.{store_view}
use Rattle.us_status.proofs.EndingLemmas.{Storing}
use Rattle.us_status.proofs.ending.store_all.Given as goal

abbrev pub invariant-loop-store : goal.invariant-loop-store
invariant-loop-store g l =
    Storing (map store_view l.stores) l.store-index (g.O.Outside.files l.fn.outside) (g.O.Outside.files l.outside) (g.O.Outside.printed l.fn.outside) (g.O.Outside.printed l.outside)
    (g.O.Outside.faults l.fn.outside) (g.O.Outside.faults l.outside)
