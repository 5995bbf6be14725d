use Rattle.us_tokens.proofs.Reading.{one_reading}
use Rattle.us_parse.specs.Machine.{library_reader}
use Rattle.us_parse.proofs.Shelves.{held}
use Rattle.us_parse.proofs.laws.one_library.Goals as goal

pub returns : goal.returns
returns c = one_reading library_reader held
