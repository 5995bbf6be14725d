use Rattle.std.proofs.Common.{length, ap, arith}
use Rattle.us_script.proofs.SoundLemmas.{counted_few, counted_push}
use Rattle.us_script.proofs.parsing.Counted.push.Goals as goal

pub sets_after-sets-requires : goal.sets_after-sets-requires
sets_after-sets-requires c = omega (arith, (counted_few _ _ _ c.self.invariant).1, ap length c.self.view_is, c.requires)

pub invariant_of-self-2 : goal.invariant_of-self-2
invariant_of-self-2 c =
    rw (c.in_ok-push.ensures.items, c.sizes_after-sizes.ensures, c.sets_after-sets.ensures) (counted_push _ c.args.step _ _ c.self.invariant)
