use Rattle.us_gen_parts.proofs.Visible.{walks-seen}
use Rattle.us_gen_parts.proofs.laws.walks_are_seen.Goals as goal

pub returns : goal.returns
returns c = walks-seen
