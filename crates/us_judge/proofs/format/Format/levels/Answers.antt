use Rattle.std.proofs.Common.{◌-◌}
use Rattle.us_judge.specs.Format.{part_at}
use Rattle.us_judge.specs.Views.{declaration_of}
use Rattle.us_judge.proofs.PartKinds.{length-kinds}
use Rattle.us_judge.proofs.format.Format.levels.Goals as goal

pub returns : goal.returns
returns c = length-kinds (part_at (declaration_of c.args.self.now) (c.args.part - 1)) c.kinds.result.now c.kinds.ensures
