use Rattle.us_tokens.proofs.Reading.{scan_means}
use Rattle.us_parse.specs.Machine.{reader}
use Rattle.us_parse.proofs.Held.{held}
use Rattle.us_parse.proofs.laws.answers_mean.Goals as goal

pub returns : goal.returns
returns c = λ earlier. scan_means (reader earlier) (held earlier)
