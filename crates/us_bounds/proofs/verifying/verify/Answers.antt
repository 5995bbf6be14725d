use Rattle.us_bounds.proofs.Verdicts.{faulty, typed_by_verdict}
use Rattle.us_bounds.proofs.verifying.verify.Goals as goal

pub new-requires-clause-typed : goal.new-requires-clause-typed
new-requires-clause-typed c = typed_by_verdict c.in-Ok.field-0 c.args.program c.in-Ok.ensures

pub returns-in-Err : goal.returns-in-Err
returns-in-Err c = faulty c.args.program c.in-Err.fault c.in-Err.ensures
