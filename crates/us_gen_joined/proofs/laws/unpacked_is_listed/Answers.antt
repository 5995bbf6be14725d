use Rattle.us_gen_joined.proofs.Joined.{unpacked_is_listed}
use Rattle.us_gen_joined.proofs.laws.unpacked_is_listed.Goals as goal

pub returns : goal.returns
returns c = unpacked_is_listed
