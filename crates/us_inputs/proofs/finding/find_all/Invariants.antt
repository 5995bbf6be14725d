use Rattle.std.proofs.Common.{map}
use Rattle.us_decl.specs.Views.{decl_view}
use Rattle.us_inputs.proofs.FindingLemmas.{Finding}
use Rattle.us_inputs.proofs.finding.find_all.Given as goal

abbrev pub invariant-loop-i : goal.invariant-loop-i
invariant-loop-i l = Finding (map decl_view l.library) (map (λ n. n.now) l.names) l.i l.found.items
