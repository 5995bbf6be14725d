use Rattle.us_format.proofs.KnownLaws.{known-law}
use Rattle.us_format.proofs.laws.known_is_least.Goals as goal

pub returns : goal.returns
returns c = known-law
