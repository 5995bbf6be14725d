use Rattle.std.proofs.Common.{◌<◌, length, arith}
use Rattle.us_climb.proofs.Tables.{skips-claimed}
use Rattle.us_climb.proofs.parents.claim.Goals as goal

pub first_free-place-requires-in-loop-place : goal.first_free-place-requires-in-loop-place
first_free-place-requires-in-loop-place c =
    let there : c.loop-place.place < length c.loop-place.table = omega (arith, c.loop-place-test.true, c.requires.high, c.loop-place.invariant.claimed_to.same) in
    skips-claimed c.loop-place.table c.loop-place.skips c.loop-place.invariant.skips_are c.loop-place.place there c.args.parent c.requires.parent
