use Rattle.std.proofs.Common.{◌-ℤ◌, ◌≤ℤ◌, pos, arith}
use Rattle.std.proofs.lemmas.Int.{ints}
use Rattle.us_build.proofs.Casts.{abs-fits, cast-of, fits-below, to_z-kept}
use Rattle.us_build.proofs.levels.distance.Goals as goal

pub overflow_sub-result : goal.overflow_sub-result
overflow_sub-result c =
    let h : pos 0 ≤ℤ (c.args.high -ℤ c.args.low) = omega (arith, ints, c.requires.order) in
    rw (to_z-kept c.args.high c.ranges.high, to_z-kept c.args.low c.ranges.low) (fits-below (c.args.high -ℤ c.args.low) h c.requires.near)

pub overflow_cast-result : goal.overflow_cast-result
overflow_cast-result c =
    let h : pos 0 ≤ℤ (c.args.high -ℤ c.args.low) = omega (arith, ints, c.requires.order) in
    rw (to_z-kept c.args.high c.ranges.high, to_z-kept c.args.low c.ranges.low, to_z-kept (c.args.high -ℤ c.args.low) (fits-below (c.args.high -ℤ c.args.low) h c.requires.near))
    (abs-fits (c.args.high -ℤ c.args.low) h c.requires.near)

pub returns : goal.returns
returns c =
    let h : pos 0 ≤ℤ (c.args.high -ℤ c.args.low) = omega (arith, ints, c.requires.order) in
    rw (to_z-kept c.args.high c.ranges.high, to_z-kept c.args.low c.ranges.low) (cast-of (c.args.high -ℤ c.args.low) h c.requires.near)
