use Rattle.std.proofs.Common.{◌-◌}
use Rattle.us_judge.specs.Views.{declaration_of}
use Rattle.us_gen_parts.proofs.PartsPassed.{AreCounted}
use Rattle.us_gen_parts.proofs.walks.dim_count.Given as goal

abbrev pub invariant-loop-number : goal.invariant-loop-number
invariant-loop-number l = AreCounted (declaration_of l.format) (l.number - 1) l.count
