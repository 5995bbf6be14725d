use Rattle.us_judge.proofs.SomePart.{some-part}
use Rattle.us_top.proofs.report.push_first.Goals as goal

pub push_part-requires-clause-part : goal.push_part-requires-clause-part
push_part-requires-clause-part c = some-part c.args.format.now c.first_part.ensures.valid
