use Rattle.us_tokens.proofs.Reading.{from_start}
use Rattle.us_parse.specs.Machine.{reader}
use Rattle.us_parse.proofs.Held.{held}
use Rattle.us_parse.proofs.laws.pieces_spell.Goals as goal

pub returns : goal.returns
returns c = λ earlier. from_start (reader earlier) (held earlier)
