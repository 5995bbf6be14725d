use Rattle.us_judge.specs.Views.{declaration_of}
use Rattle.us_gen_listing.proofs.PartsOpened.{ArePassed}
use Rattle.us_gen_kernel.proofs.openings.openings_of.Given as goal

abbrev pub invariant-loop-k : goal.invariant-loop-k
invariant-loop-k l = ArePassed (declaration_of l.format).parts l.walks l.k l.source l.openings.items
