use Rattle.std.proofs.Common.{◌≡◌, ◌-◌, vec_len, IfSome}
use Rattle.us_outside.specs.Files.{content_of}
use Rattle.us_outside.specs.Causes.{NeverFell}
use Rattle.us_outside.proofs.LoadLemmas.{IsFront}
use Rattle.us_outside.proofs.loading.load.Given as goal

abbrev pub invariant-loop-bytes : goal.invariant-loop-bytes
invariant-loop-bytes g l =
    (vec_len l.room ≡ 65536) × (g.O.Outside.files l.outside ≡ g.O.Outside.files l.fn.outside) × (g.O.Outside.printed l.outside ≡ g.O.Outside.printed l.fn.outside)
    × NeverFell (g.O.Outside.faults l.fn.outside) (g.O.Outside.faults l.outside)
    × IfSome (g.O.Outside.files l.fn.outside) (λ fs. IsFront l.bytes.items (content_of fs l.name))

abbrev pub decreases-loop-bytes : goal.decreases-loop-bytes
decreases-loop-bytes g l = 1073741825 - vec_len l.bytes
