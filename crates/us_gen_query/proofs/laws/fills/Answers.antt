use Rattle.us_gen_query.proofs.FillsRun.{fills}
use Rattle.us_gen_query.proofs.laws.fills.Goals as goal

pub returns : goal.returns
returns c = fills
