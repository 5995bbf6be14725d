use Rattle.std.proofs.Common.{subst}
use Rattle.us_judge.specs.Short.{AreShort}
use Rattle.us_judge.specs.Views.{plain_body}
use Rattle.us_judge.proofs.format.judge_body.Goals as goal

pub judge_one-requires : goal.judge_one-requires
judge_one-requires c = (subst (λ b. AreShort (plain_body b).parts) c.in-One.is c.requires.parts).0
