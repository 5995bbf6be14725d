use Rattle.us_print.proofs.RoundTrip.{read_back}
use Rattle.us_print.proofs.laws.canonical_text_reads_back.Goals as goal

pub returns : goal.returns
returns c = read_back
