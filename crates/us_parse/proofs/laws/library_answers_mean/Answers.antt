use Rattle.us_tokens.proofs.Reading.{scan_means}
use Rattle.us_parse.specs.Machine.{library_reader}
use Rattle.us_parse.proofs.Shelves.{held}
use Rattle.us_parse.proofs.laws.library_answers_mean.Goals as goal

pub returns : goal.returns
returns c = scan_means library_reader held
