use Rattle.std.proofs.Common.{[]}
use Rattle.us_tokens.proofs.Reading.{one_reading}
use Rattle.us_parse.specs.Machine.{reader}
use Rattle.us_parse.proofs.Held.{held}
use Rattle.us_parse.proofs.laws.one_declaration.Goals as goal

pub returns : goal.returns
returns c = one_reading (reader []) (held [])
