use Rattle.std.proofs.Common.{sym, subst}
use Rattle.us_status.specs.Answers.{IsStep}
use Rattle.us_inputs.specs.Steps.{judged_all}
use Rattle.us_status.specs.Answers.{then_step}
use Rattle.us_inputs.specs.Views.{formats_of}
use Rattle.us_inputs.proofs.finding.formats_in.Goals as goal

pub returns-clause-plain : goal.returns-clause-plain
returns-clause-plain c =
    subst (λ r. IsStep (then_step r judged_all) (formats_of c.judge_all.result)) (sym c.in_ok-found.ensures.plain) (rw c.deref.ensures.value at c.judge_all.ensures.plain)
