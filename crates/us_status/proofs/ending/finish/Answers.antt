use Rattle.std.proofs.Common.{map, refl, inl, rules}
use Rattle.us_status.specs.declared.status.Slot.TheVariants.{Print}
use Rattle.us_status.specs.declared.status.Status.TheVariants.{WriteFault}
use Rattle.us_status.specs.Uses.{print_use}
use Rattle.us_status.specs.Answers.{store_use}
use Rattle.us_status.specs.Views.{store_view, outcome_view}
use Rattle.us_status.proofs.EndingLemmas.{store_caused, store_stands, print_caused}
use Rattle.us_status.proofs.ending.finish.Goals as goal

pub returns-in-Err-clause-cause : goal.returns-in-Err-clause-cause
returns-in-Err-clause-cause g c =
    store_caused (outcome_view c.args.stores.now c.args.lines) (g.O.Outside.faults c.args.outside.now) (g.O.Outside.faults c.store_all.new.outside) c.in-Err.status c.in-Err.ensures.cause

pub returns-in-Err-clause-stands : goal.returns-in-Err-clause-stands
returns-in-Err-clause-stands g c =
    store_stands (outcome_view c.args.stores.now c.args.lines) c.in-Err.status (g.O.Outside.files c.args.outside.now) (g.O.Outside.files c.store_all.new.outside) (g.O.Outside.printed c.args.outside.now)
    (g.O.Outside.printed c.store_all.new.outside) c.in-Err.ensures.answer c.in-Err.ensures.stops c.in-Err.ensures.printed

pub returns-in-Err-Failed-clause-cause : goal.returns-in-Err-Failed-clause-cause
returns-in-Err-Failed-clause-cause g c =
    rw c.in-Some.is
    (print_caused (map store_use (map store_view c.args.stores.now)) print_use (g.O.Outside.faults c.args.outside.now) (g.O.Outside.faults c.store_all.new.outside) (g.O.Outside.faults c.print.new.self)
    (WriteFault Print) c.in_default.ensures.later (inl (refl, (λ e. cc), (c.in-Err-Failed.ensures.cause.failed (search rules)))))
