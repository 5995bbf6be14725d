use Rattle.std.proofs.Common.{length, ◌-◌}
use Rattle.us_format.specs.Program.{plain_shape}
use Rattle.us_judge.specs.Views.{declaration_of}
use Rattle.us_climb.specs.Layout.{cells_at}
use Rattle.us_climb.proofs.ReadSteps.{IsReadTo}
use Rattle.us_climb.proofs.reading.read_positions.Given as goal

abbrev pub invariant-loop-x : goal.invariant-loop-x
invariant-loop-x l =
    IsReadTo (plain_shape l.reader.shape) (declaration_of l.reader.format.now) l.reader.tables.buffers.now (l.reader.number - 1) (length (cells_at l.reader.layout.values l.reader.tables.buffers.now)) l.fn.found.items l.x l.found.items
