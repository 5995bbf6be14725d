use Rattle.std.proofs.Common.{map, length, ◌<◌, arith}
use Rattle.std.proofs.lemmas.List.{get_or-map, length-map}
use Rattle.std.proofs.lemmas.Result.{err_from_is_err_and}
use Rattle.us_status.specs.Views.{store_view}
use Rattle.us_status.proofs.EndingLemmas.{storing_more, stops_there, caused_there}
use Rattle.us_status.proofs.ending.store_all.Goals as goal

pub returns-in_err-store_one-clause-stops : goal.returns-in_err-store_one-clause-stops
returns-in_err-store_one-clause-stops g c =
    let p = err_from_is_err_and c.from_residual.result c.from_residual.ensures.1 in
    let below : c.loop-store.store-index < length (map store_view c.args.stores.now) = omega (arith, c.loop-store-test.true, length-map c.args.stores.now store_view) in
    rw (p.1, p.2)
    (stops_there c.in_err-store_one.field-0.0 (map store_view c.args.stores.now) c.loop-store.store-index _ (g.O.Outside.files c.args.outside.now) (g.O.Outside.files c.loop-store.outside)
    (g.O.Outside.files c.store_one.new.outside) below (get_or-map store_view c.args.stores.now c.loop-store.store-index _ _ c.loop-store-test.true) c.loop-store.invariant.files c.in_err-store_one.ensures.stops)

pub returns-in_err-store_one-clause-cause : goal.returns-in_err-store_one-clause-cause
returns-in_err-store_one-clause-cause g c =
    let p = err_from_is_err_and c.from_residual.result c.from_residual.ensures.1 in
    let below : c.loop-store.store-index < length (map store_view c.args.stores.now) = omega (arith, c.loop-store-test.true, length-map c.args.stores.now store_view) in
    rw (p.1, p.2)
    (caused_there c.in_err-store_one.field-0.0 (map store_view c.args.stores.now) c.loop-store.store-index _ (g.O.Outside.faults c.args.outside.now) (g.O.Outside.faults c.loop-store.outside)
    (g.O.Outside.faults c.store_one.new.outside) below (get_or-map store_view c.args.stores.now c.loop-store.store-index _ _ c.loop-store-test.true) c.loop-store.invariant.later c.in_err-store_one.ensures.cause)

pub loop-store-preserved : goal.loop-store-preserved
loop-store-preserved g c =
    let below : c.loop-store.store-index < length (map store_view c.args.stores.now) = omega (arith, c.loop-store-test.true, length-map c.args.stores.now store_view) in
    storing_more (map store_view c.args.stores.now) c.loop-store.store-index _ (g.O.Outside.files c.args.outside.now) (g.O.Outside.files c.loop-store.outside) (g.O.Outside.files c.store_one.new.outside)
    (g.O.Outside.printed c.args.outside.now) (g.O.Outside.printed c.loop-store.outside) (g.O.Outside.printed c.store_one.new.outside) (g.O.Outside.faults c.args.outside.now)
    (g.O.Outside.faults c.loop-store.outside) (g.O.Outside.faults c.store_one.new.outside) below (get_or-map store_view c.args.stores.now c.loop-store.store-index _ _ c.loop-store-test.true)
    c.in_ok-store_one.ensures.ok c.in_ok-store_one.ensures.printed c.in_ok-store_one.ensures.later c.loop-store.invariant
