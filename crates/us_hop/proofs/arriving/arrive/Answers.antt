use Rattle.std.proofs.Common.{List, ℤ, sym, subst}
use Rattle.us_code.specs.Plain.{program_tree}
use Rattle.us_hop.specs.Hops.{Ends}
use Rattle.us_hop.proofs.Ends.{right-ends}
use Rattle.us_hop.proofs.arriving.arrive.Goals as goal

pub run_to_end-requires-clause-ends : goal.run_to_end-requires-clause-ends
run_to_end-requires-clause-ends c =
    subst (λ (xs : List (List ℤ)). Ends (program_tree c.args.code.now) xs) (sym c.sources_of-source.ensures.are)
    (right-ends (program_tree c.args.code.now) c.args.held.now c.args.to.now c.requires.right c.sources_of-source.ensures.sources c.decl.ensures.valid c.decl.ensures.accepted c.requires.small)
