use Rattle.std.proofs.Common.{List, length, sym, subst}
use Rattle.us_query.specs.declared.lanes.Place.{Place}
use Rattle.us_query.specs.Lanes.{numbers_in}
use Rattle.us_query.proofs.Filling.{IsFilling, filling-more, filling-none}
use Rattle.us_query.proofs.Placing.{short-lanes}
use Rattle.us_query.proofs.lanes.fill.Goals as goal

pub loop-index-init : goal.loop-index-init
loop-index-init c =
    subst (λ (ps : List Place). IsFilling (length c.args.lanes.now) c.args.weights.now 0 (numbers_in c.args.lanes.now) c.args.loads.now ps) (sym c.in_ok-places.ensures.items)
    (filling-none (length c.args.lanes.now) c.args.weights.now (numbers_in c.args.lanes.now) c.args.loads.now c.requires.empty c.requires.loads)

pub put-requires-clause-short : goal.put-requires-clause-short
put-requires-clause-short c = short-lanes (numbers_in c.loop-index.lanes) c.loop-index.places.items c.loop-index.invariant.placed

pub loop-index-preserved : goal.loop-index-preserved
loop-index-preserved c =
    filling-more (length c.args.lanes.now) c.args.weights.now c.loop-index.index _ (numbers_in c.loop-index.lanes) (numbers_in c.put.new.lanes) c.loop-index.loads c.put.new.loads c.loop-index.places.items
    c.push.new.self.items c.in_ok-place.place c.loop-index-test.true c.requires.few c.loop-index.invariant c.in_ok-place.ensures.lightest c.in_ok-place.ensures.slot c.in_ok-place.ensures.lanes
    c.in_ok-place.ensures.loads c.in_ok-push.ensures.items
