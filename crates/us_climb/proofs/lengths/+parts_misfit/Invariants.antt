use Rattle.std.proofs.Common.{◌+◌, ◌-◌, length}
use Rattle.us_judge.specs.Views.{declaration_of}
use Rattle.us_climb.proofs.lengths.+parts_misfit.Given as goal

abbrev pub decreases-parts_misfit : goal.decreases-parts_misfit
decreases-parts_misfit l = length (declaration_of l.format.now).parts + 1 - l.number
