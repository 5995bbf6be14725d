use Rattle.std.proofs.Common.{◌∙◌}
use Rattle.us_judge.proofs.Apart.{apart-is}
use Rattle.us_judge.proofs.packs.is_apart.Goals as goal

pub returns : goal.returns
returns c = c.none_is_in_some.ensures ∙ apart-is c.args.packs.now c.args.pack.now
