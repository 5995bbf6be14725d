use Rattle.us_code_laws.proofs.Programs.{typed_programs_run}
use Rattle.us_code_laws.proofs.laws.typed_programs_run.Goals as goal

pub returns : goal.returns
returns c = typed_programs_run
