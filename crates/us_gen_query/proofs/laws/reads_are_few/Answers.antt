use Rattle.us_gen_query.proofs.TermValues.{reads_are_few}
use Rattle.us_gen_query.proofs.laws.reads_are_few.Goals as goal

pub returns : goal.returns
returns c = reads_are_few
