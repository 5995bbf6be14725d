use Rattle.std.proofs.lemmas.Result.{err_from_is_err_and}
use Rattle.us_inputs.specs.Views.{contained_of}
use Rattle.us_journeys.proofs.ConversionLemmas.{all_within}
use Rattle.us_journeys.proofs.JourneyLemmas.{all_along, going_ends, going_more, going_none}
use Rattle.us_journeys.proofs.journey.go_along.Goals as goal

pub loop-i-init : goal.loop-i-init
loop-i-init c =
    going_none c.args.listed c.args.formats.now c.args.journey.now.held c.args.journey.now.lines.items c.args.journey.now.listing.items c.requires.lines c.requires.listing

pub loop-i-preserved : goal.loop-i-preserved
loop-i-preserved c =
    going_more c.args.journey.now.held.matrix (contained_of c.args.journey.now.held) c.args.listed c.args.formats.now c.loop-i.i c.index-formats-i.result c.loop-i.journey.held c.go_on.new.journey.held
    c.loop-i.journey.lines.items c.go_on.new.journey.lines.items c.loop-i.journey.listing.items c.go_on.new.journey.listing.items c.loop-i-test.true c.index-formats-i.is c.in_ok-go_on.ensures.goes
    c.loop-i.invariant

pub returns-in_err-go_on-clause-plain : goal.returns-in_err-go_on-clause-plain
returns-in_err-go_on-clause-plain c =
    let p = err_from_is_err_and c.from_residual.result c.from_residual.ensures.1 in
    rw (p.1, p.2)
    (going_ends c.args.journey.now.held.matrix (contained_of c.args.journey.now.held) c.args.listed c.args.formats.now c.loop-i.i c.index-formats-i.result c.loop-i.journey.held
    c.loop-i.journey.lines.items c.loop-i.journey.listing.items c.in_err-go_on.field-0.0 c.loop-i-test.true c.index-formats-i.is c.in_err-go_on.ensures.plain c.loop-i.invariant)

pub returns-clause-along : goal.returns-clause-along
returns-clause-along c =
    all_along c.args.journey.now.held.matrix (contained_of c.args.journey.now.held) c.args.listed c.args.formats.now c.loop-i.i c.loop-i.journey.held c.loop-i.journey.lines.items
    c.loop-i.journey.listing.items c.loop-i-test.false c.loop-i.invariant

pub returns-clause-within : goal.returns-clause-within
returns-clause-within c = all_within c.args.journey.now.held.matrix c.args.formats.now c.loop-i.i c.loop-i-test.false c.loop-i.invariant.within
