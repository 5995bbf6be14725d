use Rattle.us_gen_build_laws.proofs.Part.{sorted-ready}
use Rattle.us_gen_build_laws.proofs.laws.sorted_rows_are_ready.Goals as goal

pub returns : goal.returns
returns c = sorted-ready
