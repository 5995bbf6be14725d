use Rattle.std.proofs.Common.{◌/◌, length, List, ℤ, sym, ap, ◌∙◌}
use Rattle.us_format.specs.Lists.{nth}
use Rattle.us_climb.proofs.ColumnCells.{length-column}
use Rattle.us_climb.proofs.cells.column_len.Goals as goal

pub returns : goal.returns
returns c =
    ap (λ (cells : List ℤ). length cells / c.args.place.now.columns) c.list_at.ensures
    ∙ sym (length-column c.args.place.now.columns c.args.place.now.column (nth c.args.buffers.now c.args.place.now.buffer))
