use Rattle.std.proofs.Common.{refl, ap, None}
use Rattle.us_code.specs.Unbound.{broken}
use Rattle.us_bounds.proofs.Leading.{kept, no_more, judged_err, judged_ok, leads_out, leads_done}
use Rattle.us_bounds.proofs.phases.check_make.Goals as goal

pub returns-in_err-judge : goal.returns-in_err-judge
returns-in_err-judge c =
    judged_err None _ _ _ _ c.from_residual.ensures.1 (ap (broken c.args.item) (kept 1 c.may_make-names.ensures (kept 8 c.cell_has_room-room.ensures no_more))) c.in_err-judge.ensures

pub returns-in_err-add_buf : goal.returns-in_err-add_buf
returns-in_err-add_buf c =
    leads_out _ _ _ _ _ c.from_residual-in_err-add_buf.ensures.1

pub returns : goal.returns
returns c =
    judged_ok None (ap (broken c.args.item) (kept 1 c.may_make-names.ensures (kept 8 c.cell_has_room-room.ensures no_more))) c.in_ok-judge.ensures (leads_done refl refl c.in_ok-add_buf.ensures)
