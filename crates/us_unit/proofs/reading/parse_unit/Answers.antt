use Rattle.us_unit.proofs.Told.{target_is}
use Rattle.us_unit.proofs.reading.parse_unit.Goals as goal

pub returns-in-Ok-clause-is : goal.returns-in-Ok-clause-is
returns-in-Ok-clause-is c = target_is c.args.bytes.now c.in-Ok.one c.with_program.result c.in-Ok.ensures c.with_program.ensures.is
