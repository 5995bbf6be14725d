use Rattle.std.proofs.Common.{◌+◌, ◌*◌, ◌/◌, ◌<◌, ◌≤◌, length, List, ℤ, sym, ap, subst, ◌∙◌, w64}
use Rattle.std.proofs.lemmas.Int.{to_z-of_z}
use Rattle.us_format.specs.Lists.{nth, cell}
use Rattle.us_climb.proofs.ColumnCells.{cell-within, cell-past}
use Rattle.us_climb.proofs.cells.column_cell.Goals as goal

pub returns-then-x-cells : goal.returns-then-x-cells
returns-then-x-cells c =
    sym (cell-past c.args.place.now.columns c.args.place.now.column (nth c.args.buffers.now c.args.place.now.buffer) c.args.x
    (subst (λ (cells : List ℤ). length cells / c.args.place.now.columns ≤ c.args.x) c.list_at-cells.ensures c.if-x-cells.true))

pub returns : goal.returns
returns c =
    to_z-of_z w64 c.cell_of.result (record { sfits = c.cell_of.type_inv }) ∙ c.cell_of.ensures ∙ ap (λ (cells : List ℤ). cell cells (c.args.x * c.args.place.now.columns + c.args.place.now.column)) c.list_at-cells.ensures
    ∙ sym (cell-within c.args.place.now.columns c.args.place.now.column (nth c.args.buffers.now c.args.place.now.buffer) c.args.x
    (subst (λ (cells : List ℤ). c.args.x < length cells / c.args.place.now.columns) c.list_at-cells.ensures c.if-x-cells.false))
