use Rattle.us_gen_parts.proofs.RoomFew.{walks-few}
use Rattle.us_gen_parts.proofs.laws.walks_are_few.Goals as goal

pub returns : goal.returns
returns c = walks-few
