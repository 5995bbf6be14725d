use Rattle.us_bounds.specs.Seen.{context_of}
use Rattle.us_bounds.proofs.Phasing.{lines_start, lines_room, lines_more, lines_stop, lines_end}
use Rattle.us_bounds.proofs.phases.check_lines.Goals as goal

pub loop-line-init : goal.loop-line-init
loop-line-init c =
    lines_start (context_of c.args.table.now) c.args.item c.args.lines.now

pub check_line-requires : goal.check_line-requires
check_line-requires c =
    lines_room c.loop-line.next c.args.lines.now c.loop-line.line-index c.loop-line-test.true c.loop-line.invariant c.requires

pub returns-in_err-next : goal.returns-in_err-next
returns-in_err-next c =
    lines_stop c.args.lines.now c.loop-line.line-index c.loop-line-test.true (context_of c.loop-line.table) c.loop-line.next c.line-item.result c.line-item.is c.loop-line.invariant _ _ _ c.from_residual.ensures.1 c.in_err-next.ensures

pub loop-line-preserved : goal.loop-line-preserved
loop-line-preserved c =
    lines_more c.args.lines.now c.loop-line.line-index c.loop-line-test.true (context_of c.loop-line.table) c.loop-line.next c.line-item.result c.line-item.is c.loop-line.invariant _ _ c.in_ok-next.ensures

pub returns : goal.returns
returns c =
    lines_end c.args.lines.now c.loop-line.line-index c.loop-line-test.false c.loop-line.invariant
