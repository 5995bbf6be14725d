use Rattle.us_code_laws.proofs.Depends.{depends_on_names}
use Rattle.us_code_laws.proofs.laws.depends_on_names.Goals as goal

pub returns : goal.returns
returns c = depends_on_names
