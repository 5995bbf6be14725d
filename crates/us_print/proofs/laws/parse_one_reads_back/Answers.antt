use Rattle.us_print.proofs.ParseBack.{parse_back}
use Rattle.us_print.proofs.laws.parse_one_reads_back.Goals as goal

pub returns : goal.returns
returns c = parse_back
