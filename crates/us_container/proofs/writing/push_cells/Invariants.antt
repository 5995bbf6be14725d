use Rattle.std.proofs.Common.{◌≡◌, ◌++◌, drop}
use Rattle.std.specs.List.{flat_map}
use Rattle.us_container.specs.Bytes.{cell_bytes}
use Rattle.us_container.proofs.writing.push_cells.Given as goal

abbrev pub invariant-loop-cell : goal.invariant-loop-cell
invariant-loop-cell l = l.out.items ++ flat_map cell_bytes (drop l.cell-index l.cells) ≡ l.fn.out.items ++ flat_map cell_bytes l.cells
