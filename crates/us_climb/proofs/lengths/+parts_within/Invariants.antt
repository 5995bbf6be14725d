use Rattle.std.proofs.Common.{◌+◌, ◌-◌, length}
use Rattle.us_judge.specs.Views.{declaration_of}
use Rattle.us_climb.proofs.lengths.+parts_within.Given as goal

abbrev pub decreases-parts_within : goal.decreases-parts_within
decreases-parts_within l = length (declaration_of l.format.now).parts + 1 - l.number
