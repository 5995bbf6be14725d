use Rattle.us_bounds.specs.Seen.{context_of}
use Rattle.us_bounds.proofs.Verdicts.{phase_room, rest_room, phase_more, phase_stop, phases_end}
use Rattle.us_bounds.proofs.verifying.check_phases.Goals as goal

pub check_phase-step-requires : goal.check_phase-step-requires
check_phase-step-requires c = phase_room c.args.phases.now c.loop-number.number c.index-phases-number.result c.loop-number-test.true c.index-phases-number.is c.loop-number.invariant.room

pub returns-in_err-at_phase : goal.returns-in_err-at_phase
returns-in_err-at_phase c =
    phase_stop c.args.phases.now c.loop-number.number c.index-phases-number.result c.loop-number-test.true c.index-phases-number.is (context_of c.loop-number.table) c.loop-number.number c.args.give.now c.loop-number.invariant.goes_on
    _ c.check_phase-step.result c.from_residual.ensures.1 c.check_phase-step.ensures.step c.in_err-at_phase.ensures

pub loop-number-preserved : goal.loop-number-preserved
loop-number-preserved c = record {
  room = rest_room c.args.phases.now c.loop-number.number c.index-phases-number.result c.loop-number-test.true c.index-phases-number.is c.loop-number.invariant.room;
  goes_on = phase_more c.args.phases.now c.loop-number.number c.index-phases-number.result c.loop-number-test.true c.index-phases-number.is (context_of c.loop-number.table) c.loop-number.number c.args.give.now c.loop-number.invariant.goes_on
      (context_of c.check_phase-step.new.table) c.check_phase-step.result _ c.check_phase-step.ensures.step c.check_phase-step.ensures.seen c.in_ok-at_phase.ensures;
}

pub returns : goal.returns
returns c = phases_end c.args.phases.now c.loop-number.number (context_of c.loop-number.table) c.args.give.now _ c.loop-number-test.false c.loop-number.auto.number-end c.loop-number.invariant.goes_on c.check_give.ensures
