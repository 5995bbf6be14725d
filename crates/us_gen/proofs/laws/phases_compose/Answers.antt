use Rattle.us_gen.proofs.Going.{phases_compose}
use Rattle.us_gen.proofs.laws.phases_compose.Goals as goal

pub returns : goal.returns
returns c = phases_compose
