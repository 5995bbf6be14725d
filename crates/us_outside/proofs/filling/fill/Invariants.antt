use Rattle.std.proofs.Common.{◌≡◌, ◌-◌, ◌≤◌, length, IfSome}
use Rattle.us_outside.specs.Files.{content_of}
use Rattle.us_outside.specs.Causes.{NeverFell}
use Rattle.us_outside.proofs.FillLemmas.{IsPart}
use Rattle.us_outside.proofs.filling.fill.Given as goal

abbrev pub invariant-loop-filled : goal.invariant-loop-filled
invariant-loop-filled g l =
    (l.filled ≤ length l.room) × (g.O.Outside.files l.outside ≡ g.O.Outside.files l.fn.outside) × (g.O.Outside.printed l.outside ≡ g.O.Outside.printed l.fn.outside)
    × NeverFell (g.O.Outside.faults l.fn.outside) (g.O.Outside.faults l.outside)
    × IfSome (g.O.Outside.files l.fn.outside) (λ fs. IsPart (content_of fs l.name) l.from l.filled l.room)

abbrev pub decreases-loop-filled : goal.decreases-loop-filled
decreases-loop-filled g l = length l.room - l.filled
