use Rattle.std.proofs.Common.{sym}
use Rattle.us_mm_lines.proofs.UsualLemmas.{entry_line}
use Rattle.us_mm_lines.proofs.usual.usual_entry.Goals as goal

pub returns : goal.returns
returns c =
    entry_line c.args.line.now c.in_ok-row.behind_row.now c.in_ok-col.behind_col.now c.without_minus-minus.result.1.now c.in_ok-size.rest.now
    c.in_ok-row.row c.in_ok-col.col c.in_ok-size.size c.without_minus-minus.result.0
    c.in_ok-row.ensures c.in_ok-col.ensures c.without_minus-minus.ensures c.in_ok-size.ensures (sym c.if-not-is_empty.ensures)
