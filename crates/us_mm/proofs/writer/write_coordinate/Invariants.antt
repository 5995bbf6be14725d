use Rattle.std.proofs.Common.{◌≡◌, ◌++◌, drop, flat_map}
use Rattle.us_mm.specs.Text.{text, entry_line}
use Rattle.us_mm.proofs.writer.write_coordinate.Given as goal

abbrev pub invariant-loop-t : goal.invariant-loop-t
invariant-loop-t l = l.out.items ++ flat_map entry_line (drop l.t-index l.entries) ≡ text l.matrix
