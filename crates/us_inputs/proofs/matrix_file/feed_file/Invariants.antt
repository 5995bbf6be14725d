use Rattle.std.proofs.Common.{◌≡◌, ◌-◌, ◌≤◌, vec_len, IfSome}
use Rattle.us_outside.specs.Files.{content_of}
use Rattle.us_outside.specs.Causes.{NeverFell}
use Rattle.us_inputs.proofs.PiecesLemmas.{IsReading}
use Rattle.us_inputs.proofs.matrix_file.feed_file.Given as goal

abbrev pub invariant-loop-from : goal.invariant-loop-from
invariant-loop-from g l =
    (vec_len l.room ≡ 65536) × (g.O.Outside.files l.outside ≡ g.O.Outside.files l.fn.outside) × (g.O.Outside.printed l.outside ≡ g.O.Outside.printed l.fn.outside)
    × NeverFell (g.O.Outside.faults l.fn.outside) (g.O.Outside.faults l.outside)
    × (l.from ≤ 1073807360)
    × IfSome (g.O.Outside.files l.fn.outside) (λ fs. IsReading (content_of fs l.name) l.from l.reader)

abbrev pub decreases-loop-from : goal.decreases-loop-from
decreases-loop-from g l = 1073807361 - l.from
