use Rattle.std.proofs.Common.{◌<◌, ◌-◌, sym, subst}
use Rattle.us_judge.specs.Views.{declaration_of}
use Rattle.us_judge.specs.Format.{part_at}
use Rattle.us_judge.proofs.PartKinds.{length-kinds, kind_there}
use Rattle.us_judge.proofs.format.Format.kind.Goals as goal

pub bounds-kinds-level : goal.bounds-kinds-level
bounds-kinds-level c =
    subst (λ n. c.args.level < n) (sym (length-kinds (part_at (declaration_of c.args.self.now) (c.args.part - 1)) c.kinds.result.now c.kinds.ensures)) c.requires.level

pub returns : goal.returns
returns c = kind_there (part_at (declaration_of c.args.self.now) (c.args.part - 1)) c.kinds.result.now c.args.level c.kinds.ensures c.requires.level
