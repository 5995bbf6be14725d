use Rattle.us_tokens.proofs.Reading.{scan_means, one_reading}
use Rattle.us_tokens.proofs.laws.reading_law.Goals as goal

pub returns : goal.returns
returns g c = record { means = λ m held. scan_means m held; one = λ m held. one_reading m held }
