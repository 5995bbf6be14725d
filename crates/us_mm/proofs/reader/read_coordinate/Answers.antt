use Rattle.std.proofs.Common.{rules, arith, [], length, ◌<◌, ◌^◌, inl, inr}
use Rattle.us_mm.proofs.reader.read_coordinate.Goals as goal

pub returns : goal.returns
returns c =
    let bytes = c.args.bytes.now in
    let small : length bytes < 2 ^ 63 = search rules in
    elim (c.feed.ensures.stands [] (omega (arith, small)) c.new-reader.ensures) [
      | inl gone ↦ rw (c.finish.ensures.out gone) tt
      | inr stands ↦ c.finish.ensures.value bytes (omega (arith, small)) stands
    ]
