use Rattle.std.proofs.Common.{◌∙◌}
use Rattle.us_judge.proofs.Members.{any_defines}
use Rattle.us_judge.proofs.variables.is_member.Goals as goal

pub returns : goal.returns
returns c = c.some_defines.ensures ∙ any_defines c.args.class c.args.v c.args.queries.now
