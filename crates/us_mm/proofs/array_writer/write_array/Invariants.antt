use Rattle.std.proofs.Common.{◌≡◌, ◌++◌, drop, flat_map}
use Rattle.us_mm.specs.Text.{array_text, value_line}
use Rattle.us_mm.proofs.array_writer.write_array.Given as goal

abbrev pub invariant-loop-v : goal.invariant-loop-v
invariant-loop-v l = l.out.items ++ flat_map value_line (drop l.v-index l.cells) ≡ array_text l.dense
