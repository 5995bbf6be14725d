use Rattle.std.proofs.Common.{refl}
use Rattle.us_parse.proofs.Texts.{parsed_library, fault_library}
use Rattle.us_parse.proofs.parsing.parse_library.Goals as goal

pub returns-in-Ok : goal.returns-in-Ok
returns-in-Ok c = parsed_library _ c.in-Ok.library c.in-Ok.ensures

pub returns-in-Err : goal.returns-in-Err
returns-in-Err c = fault_library _ _ c.in-Err.stop _ refl c.in-Err.ensures c.fault.ensures
