use Rattle.us_format.specs.Program.{plain_shape}
use Rattle.us_judge.specs.Views.{declaration_of}
use Rattle.us_climb.proofs.ReadSteps.{IsReadBefore}
use Rattle.us_climb.proofs.reading.read_entries.Given as goal

abbrev pub invariant-loop-part : goal.invariant-loop-part
invariant-loop-part l = IsReadBefore (plain_shape l.fn.shape) (declaration_of l.format) l.buffers l.part l.found.items
