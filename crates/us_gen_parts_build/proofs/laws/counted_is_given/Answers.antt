use Rattle.us_gen_parts_build.proofs.Counted.{counted-is-given}
use Rattle.us_gen_parts_build.proofs.laws.counted_is_given.Goals as goal

pub returns : goal.returns
returns c = counted-is-given
