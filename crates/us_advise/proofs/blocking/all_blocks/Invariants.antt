use Rattle.std.proofs.Common.{◌≡◌}
use Rattle.us_format.specs.Lists.{join}
use Rattle.us_advise.specs.Blocks.{row_of_blocks}
use Rattle.us_advise.proofs.Listed.{made_to}
use Rattle.us_advise.proofs.blocking.all_blocks.Given as goal

abbrev pub invariant-loop-rows : goal.invariant-loop-rows
invariant-loop-rows l = l.formats ≡ join (made_to row_of_blocks l.rows)
