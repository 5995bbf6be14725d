use Rattle.std.proofs.Common.{map}
use Rattle.us_decl.specs.Views.{decl_view}
use Rattle.us_inputs.proofs.FindingLemmas.{Judging}
use Rattle.us_inputs.proofs.finding.judge_all.Given as goal

abbrev pub invariant-loop-i : goal.invariant-loop-i
invariant-loop-i l = Judging (map (λ d. decl_view d.now) l.found) l.i l.formats.items
