use Rattle.std.proofs.Common.{◌-◌}
use Rattle.us_format.specs.Program.{plain_shape}
use Rattle.us_judge.specs.Views.{declaration_of}
use Rattle.us_gen_parts.proofs.PartsPassed.{ArePassed}
use Rattle.us_gen_parts.proofs.walks.part_walks.Given as goal

abbrev pub invariant-loop-number : goal.invariant-loop-number
invariant-loop-number l = ArePassed (record { source = 0; dim = l.first_dim }) (plain_shape l.shape) (declaration_of l.format) (l.number - 1) l.start l.walks.items
