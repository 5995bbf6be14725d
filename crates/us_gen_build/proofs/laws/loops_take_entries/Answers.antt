use Rattle.us_gen_build.proofs.LoopRun.{loops_take_entries}
use Rattle.us_gen_build.proofs.laws.loops_take_entries.Goals as goal

pub returns : goal.returns
returns c = loops_take_entries
