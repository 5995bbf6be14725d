use Rattle.std.proofs.Common.{refl}
use Rattle.std.proofs.lemmas.Result.{err_from_is_err_and}
use Rattle.us_parse.proofs.Asking.{lanes_no_slot, lanes_unequal, lanes_no_schedule, lanes_no_argument, lanes_no_into, lanes_no_number, lanes_goes}
use Rattle.us_parse.proofs.reading.Reader.schedule.Goals as goal

pub returns-in_err-slot : goal.returns-in_err-slot
returns-in_err-slot c =
    let p = err_from_is_err_and c.from_residual.result c.from_residual.ensures.1 in
    rw (p.1, p.2) (lanes_no_slot _ _ c.in_err-slot.field-0.0 c.in_err-slot.ensures.err)

pub returns-in_err-expect : goal.returns-in_err-expect
returns-in_err-expect c =
    let p = err_from_is_err_and c.from_residual-in_err-expect.result c.from_residual-in_err-expect.ensures.1 in
    rw (p.1, p.2) (lanes_unequal _ _ _ _ _ c.in_ok-slot.ensures.ok c.in_err-expect.field-0.0 c.in_err-expect.ensures.err)

pub returns-in_err-expect-2 : goal.returns-in_err-expect-2
returns-in_err-expect-2 c =
    let p = err_from_is_err_and c.from_residual-in_err-expect-2.result c.from_residual-in_err-expect-2.ensures.1 in
    rw (p.1, p.2) (lanes_no_schedule _ _ _ _ _ c.in_ok-slot.ensures.ok _ c.in_ok-expect.ensures.ok c.in_err-expect-2.field-0.0 c.in_err-expect-2.ensures.err)

pub returns-in_err-arg : goal.returns-in_err-arg
returns-in_err-arg c =
    let p = err_from_is_err_and c.from_residual-in_err-arg.result c.from_residual-in_err-arg.ensures.1 in
    rw (p.1, p.2) (lanes_no_argument _ _ _ _ _ c.in_ok-slot.ensures.ok _ c.in_ok-expect.ensures.ok _ c.in_ok-expect-2.ensures.ok c.in_err-arg.field-0.0 c.in_err-arg.ensures)

pub returns-in_err-expect-3 : goal.returns-in_err-expect-3
returns-in_err-expect-3 c =
    let p = err_from_is_err_and c.from_residual-in_err-expect-3.result c.from_residual-in_err-expect-3.ensures.1 in
    rw (p.1, p.2) (lanes_no_into _ _ _ _ _ c.in_ok-slot.ensures.ok _ c.in_ok-expect.ensures.ok _ c.in_ok-expect-2.ensures.ok _ _ _ c.in_ok-arg.ensures c.in_err-expect-3.field-0.0 c.in_err-expect-3.ensures.err)

pub returns-in_err-lanes : goal.returns-in_err-lanes
returns-in_err-lanes c =
    let p = err_from_is_err_and c.from_residual-in_err-lanes.result c.from_residual-in_err-lanes.ensures.1 in
    rw (p.1, p.2) (lanes_no_number _ _ _ _ _ c.in_ok-slot.ensures.ok _ c.in_ok-expect.ensures.ok _ c.in_ok-expect-2.ensures.ok _ _ _ c.in_ok-arg.ensures _ c.in_ok-expect-3.ensures.ok c.in_err-lanes.field-0.0 c.in_err-lanes.ensures.err)

pub returns : goal.returns
returns c = lanes_goes _ _ _ _ _ c.in_ok-slot.ensures.ok _ c.in_ok-expect.ensures.ok _ c.in_ok-expect-2.ensures.ok _ _ _ c.in_ok-arg.ensures _ c.in_ok-expect-3.ensures.ok _ c.in_ok-lanes.lanes _ _ c.in_ok-lanes.ensures.ok refl
