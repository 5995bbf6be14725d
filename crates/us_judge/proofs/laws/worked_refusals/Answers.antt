use Rattle.us_judge.proofs.WorkedRefusals.{refusals, acceptances, order}
use Rattle.us_judge.proofs.laws.worked_refusals.Goals as goal

pub returns : goal.returns
returns c = record {
  refused = refusals;
  accepted = acceptances;
  order = order;
}
