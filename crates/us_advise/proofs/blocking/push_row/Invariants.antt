use Rattle.std.proofs.Common.{◌≡◌, ◌++◌}
use Rattle.us_advise.specs.Blocks.{block}
use Rattle.us_advise.proofs.Listed.{made_to}
use Rattle.us_advise.proofs.blocking.push_row.Given as goal

abbrev pub invariant-loop-cols : goal.invariant-loop-cols
invariant-loop-cols l = l.formats ≡ l.initial.formats ++ made_to (block l.rows) l.cols
