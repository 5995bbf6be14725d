use Rattle.us_judge.proofs.LawfulDeclarations.{accepted-declaration}
use Rattle.us_judge.proofs.laws.accepted_is_lawful.Goals as goal

pub returns : goal.returns
returns c = accepted-declaration
