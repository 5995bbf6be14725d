use Rattle.std.proofs.Common.{◌-◌, sym, ap, ◌∙◌}
use Rattle.us_format.specs.Declaration.{Declaration}
use Rattle.us_judge.specs.Format.{part_at}
use Rattle.us_judge.specs.Views.{declaration_of}
use Rattle.us_judge.proofs.Valid.{plain-is}
use Rattle.us_judge.proofs.format.Format.part.Goals as goal

pub returns-clause-is : goal.returns-clause-is
returns-clause-is c =
    c.part_of.ensures ∙ ap (λ (d : Declaration). part_at d (c.args.part - 1)) (sym (plain-is c.decl.result.now) ∙ ap declaration_of c.decl.ensures.is)
