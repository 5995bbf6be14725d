use Rattle.us_judge.proofs.LawfulDeclarations.{accepted-declaration}
use Rattle.us_check.proofs.checking.is_lawful.Goals as goal

pub returns : goal.returns
returns c = accepted-declaration c.args.format.now c.decl.ensures.valid c.decl.ensures.accepted
